use Rattle.std.proofs.Common.{◌≡◌, ◌++◌, length}
use Rattle.spec_tableaux.specs.Rows.{without}
use Rattle.tableau.specs.Entries.{entries_of}
use Rattle.tableau.proofs.sums.without.Given as goal

abbrev pub invariant-loop-e : goal.invariant-loop-e
invariant-loop-e l = entries_of l.out.items ++ without l.x (entries_of l.rest) ≡ without l.x (entries_of l.fn.entries)

abbrev pub decreases-loop-e : goal.decreases-loop-e
decreases-loop-e l = length l.rest
