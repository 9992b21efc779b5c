use Rattle.std.proofs.Common.{length}
use Rattle.tableau.specs.Entries.{entries_of}
use Rattle.spec_causes.specs.Reasons.{with_basic}
use Rattle.simplex_explain.specs.BoundReasons.{footing}
use Rattle.simplex_explain.proofs.Telling.{Told}
use Rattle.simplex_explain.proofs.sums.reasons_for.Given as goal

abbrev pub invariant-loop-e : goal.invariant-loop-e
invariant-loop-e l = Told (footing l.atoms l.bounds) l.up (with_basic l.basic (entries_of l.entries)) (entries_of l.rest) l.reasons.items

abbrev pub decreases-loop-e : goal.decreases-loop-e
decreases-loop-e l = length l.rest
