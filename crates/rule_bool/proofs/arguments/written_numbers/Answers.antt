-- That each number is read from its text.
use Rattle.std.proofs.Common.{ap, ◌∙◌}
use Rattle.std.proofs.lemmas.List.{take_all}
use Rattle.linear_form.specs.Coefficients.{coefficients_meant}
use Rattle.rule_bool.proofs.CoefficientsRead.{fractions_read}
use Rattle.rule_bool.proofs.arguments.written_numbers.Goals as goal

pub returns : goal.returns
returns c =
    ap coefficients_meant (rw (take_all _ _ c.loop-number-test.false) at c.loop-number.invariant)
    ∙ fractions_read c.args.numbers.now c.ratios_are_fractions.ensures.reduced c.ratios_are_fractions.ensures.bounded
