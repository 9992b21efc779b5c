use Rattle.std.proofs.Common.{◌≡◌, ◌++◌, length}
use Rattle.spec_tableaux.specs.Rows.{negated}
use Rattle.spec_tableaux.specs.Numbers.{numbers}
use Rattle.tableau.specs.Entries.{entries_of}
use Rattle.tableau.proofs.pivots.negated.Given as goal

abbrev pub invariant-loop-e : goal.invariant-loop-e
invariant-loop-e l = entries_of l.out.items ++ negated numbers (entries_of l.rest) ≡ negated numbers (entries_of l.fn.entries)

abbrev pub decreases-loop-e : goal.decreases-loop-e
decreases-loop-e l = length l.rest
