-- One digit after the other, until none is left.
use Rattle.std.proofs.Common.{sym, ◌∙◌}
use Rattle.std.proofs.lemmas.List.{nil_from_length}
use Rattle.smt_command.proofs.Levels.{digit_taken, no_digit_left}
use Rattle.smt_command.proofs.shapes.number_of.Goals as goal

pub digits-preserved : goal.digits-preserved
digits-preserved c = (
  c.digits.invariant.0 ∙ digit_taken c.digits.number c.in-Some.digit.now c.with_digit-number.result c.in-Some.after.now c.digits.rest.now c.in-Some.ensures.cases.0 c.with_digit-number.ensures,
  c.with_digit-number.type_inv,
)

pub returns : goal.returns
returns c = sym (c.digits.invariant.0 ∙ no_digit_left c.digits.number c.digits.rest.now c.digits.invariant.1 (nil_from_length c.digits.rest.now c.in_default.ensures.cases))
