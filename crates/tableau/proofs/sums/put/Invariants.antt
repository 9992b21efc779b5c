use Rattle.std.proofs.Common.{◌≡◌, ◌++◌, length}
use Rattle.spec_tableaux.specs.Rows.{put}
use Rattle.spec_tableaux.specs.Numbers.{numbers}
use Rattle.tableau.specs.Numbers.{number_of}
use Rattle.tableau.specs.Entries.{entries_of}
use Rattle.tableau.specs.Sums.{IsLeft}
use Rattle.tableau.proofs.sums.put.Given as goal

abbrev pub invariant-loop-e : goal.invariant-loop-e
invariant-loop-e l = record {
  same : entries_of l.out.items ++ put numbers l.x (number_of l.c) (entries_of l.rest) ≡ put numbers l.x (number_of l.c) (entries_of l.fn.entries);
  left : IsLeft (entries_of l.fn.entries) (entries_of l.rest);
}

abbrev pub decreases-loop-e : goal.decreases-loop-e
decreases-loop-e l = length l.rest
