use Rattle.std.proofs.Common.{◌-◌, length}
use Rattle.congruence_closure.specs.Changes.{KeepsFacts}
use Rattle.congruence_closure.proofs.parts.ClosureParts.saturate.Given as goal

abbrev pub invariant-joins : goal.invariant-joins
invariant-joins l = KeepsFacts l.fn.self l.self

abbrev pub decreases-joins : goal.decreases-joins
decreases-joins l = l.self.terms - length l.self.now.edges
