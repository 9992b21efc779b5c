-- What was so at each mark.
use Rattle.std.proofs.Common.{◌<◌, ℕ, subst}
use Rattle.std.specs.Prelude.{length, get_or}
use Rattle.congruence_closure.specs.Closure.{ClosureView, ArePrefix}
use Rattle.congruence_closure.proofs.Prefixes.{front_marked}
use Rattle.congruence_closure.proofs.closure.Closure.marks_are_prefixes.Goals as goal

pub returns : goal.returns
returns c = subst (λ (v : ClosureView). (k : ℕ) → k < length v.marks → ArePrefix (get_or v.marks k v.now).facts v.now.facts) c.self.view_is
    (front_marked c.self.inside.parts.now.facts (record { facts = c.self.inside.parts.now.facts; saturated = c.self.inside.saturated }) c.self.inside.marks.items)
