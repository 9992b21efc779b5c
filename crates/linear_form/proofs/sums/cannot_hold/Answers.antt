-- That a sum with a variable left may hold.
use Rattle.std.proofs.Common.{◌∙◌}
use Rattle.linear_form.proofs.SumSteps.{variable_left}
use Rattle.linear_form.proofs.sums.cannot_hold.Goals as goal

pub returns-else-is_constant : goal.returns-else-is_constant
returns-else-is_constant c = λ t. c.if-is_constant.false ∙ variable_left t c.args.strict c.args.sum.now.constant c.args.sum.now.variables c.if-is_constant.ensures
