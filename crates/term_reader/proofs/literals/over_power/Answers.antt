use Rattle.std.proofs.Common.{◌≡◌, pos, to_z, ap, ◌∙◌}
use Rattle.std.proofs.Math.Facts.{to_z_pos}
use Rattle.spec_numbers.specs.Fractions.{divide, whole, lowest}
use mir.Syntax.{w128}
use Rattle.term_reader.proofs.Digits.{whole_over}
use Rattle.term_reader.proofs.literals.over_power.Goals as goal

pub returns : goal.returns
returns c =
    let power = c.power_of_ten-power in
    let top : to_z w128 c.args.number ≡ pos c.args.number = to_z_pos w128 c.requires.number in
    let bottom : to_z w128 power.result ≡ pos power.result = to_z_pos w128 power.ensures.small in
    c.of.ensures
    ∙ ap (λ z. divide (whole z) (whole (to_z w128 power.result))) top
    ∙ ap (λ z. divide (whole (pos c.args.number)) (whole z)) bottom
    ∙ whole_over (pos c.args.number) power.result power.ensures.positive
    ∙ ap (λ d. lowest (pos c.args.number) d) power.ensures.value
