use Rattle.std.proofs.Common.{◌≡◌, ◌++◌, ℕ, ◌+◌, length}
use Rattle.spec_tableaux.specs.SolvedForms.{IsTidy}
use Rattle.spec_tableaux.specs.Numbers.{numbers}
use Rattle.tableau.specs.Numbers.{number_of}
use Rattle.tableau.specs.Entries.{entries_of}
use Rattle.tableau.specs.Sums.{combined, IsLeft}
use Rattle.tableau.proofs.sums.merge.Given as goal

abbrev pub invariant-loop-g : goal.invariant-loop-g
invariant-loop-g l = record {
  left_tidy : (at : ℕ) × IsTidy numbers at (entries_of l.left);
  taken_tidy : (at : ℕ) × IsTidy numbers at (entries_of l.taken);
  es_left : IsLeft (entries_of l.fn.es) (entries_of l.left);
  gs_left : IsLeft (entries_of l.fn.gs) (entries_of l.taken);
  same : entries_of l.out.items ++ combined l.minus (entries_of l.left) (number_of l.k) (entries_of l.taken) ≡ combined l.fn.minus (entries_of l.fn.es) (number_of l.fn.k) (entries_of l.fn.gs);
}

abbrev pub decreases-loop-g : goal.decreases-loop-g
decreases-loop-g l = length l.left + length l.taken
