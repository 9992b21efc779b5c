use Rattle.std.proofs.Common.{◌≡◌, ◌==◌, ◌≤◌, false, length}
use Rattle.spec_tableaux.specs.SolvedForms.{AllVariables}
use Rattle.tableau.specs.Entries.{entries_of}
use Rattle.tableau.proofs.Putting.{PutsIn}
use Rattle.tableau.proofs.sums.place_of.Given as goal

abbrev pub invariant-loop-e : goal.invariant-loop-e
invariant-loop-e l = record {
  short : length l.rest ≤ length l.fn.entries;
  puts : PutsIn l.fn.entries l.x l.rest;
  new : AllVariables (λ y. (y == l.x) ≡ false) (entries_of l.rest);
}

abbrev pub decreases-loop-e : goal.decreases-loop-e
decreases-loop-e l = length l.rest
