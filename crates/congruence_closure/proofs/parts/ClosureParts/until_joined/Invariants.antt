use Rattle.std.proofs.Common.{◌≡◌}
use Rattle.congruence_closure.specs.Changes.{KeepsFacts, remaining}
use Rattle.congruence_closure.proofs.parts.ClosureParts.until_joined.Given as goal

abbrev pub invariant-quiet : goal.invariant-quiet
invariant-quiet l = KeepsFacts l.fn.self l.self × (l.self.now.edges ≡ l.fn.self.now.edges)

abbrev pub decreases-quiet : goal.decreases-quiet
decreases-quiet l = remaining l.self.now
