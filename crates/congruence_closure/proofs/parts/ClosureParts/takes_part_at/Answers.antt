-- It is so of the listed term.
use Rattle.std.proofs.Common.{ap, ◌∙◌}
use Rattle.congruence_closure.specs.Listed.{nth}
use Rattle.congruence_closure.specs.State.{PartsView}
use Rattle.congruence_closure.proofs.parts.ClosureParts.takes_part_at.Goals as goal

pub returns : goal.returns
returns c = c.at.ensures.part ∙ ap (λ (v : PartsView). (nth v.now.facts.listed c.args.place).takes_part) c.self.view_is
