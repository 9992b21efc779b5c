use Rattle.std.proofs.Common.{ℕ, List, length}
use Rattle.tableau.specs.Entries.{entries_of}
use Rattle.tableau.specs.Kept.{IsNoted}
use Rattle.tableau.proofs.columns.from_variable.Given as goal

abbrev pub invariant-loop-e : goal.invariant-loop-e
invariant-loop-e l = (columns : List (List ℕ)) (n : ℕ) → IsNoted columns n (entries_of l.fn.entries) → IsNoted columns n (entries_of l.rest)

abbrev pub decreases-loop-e : goal.decreases-loop-e
decreases-loop-e l = length l.rest
