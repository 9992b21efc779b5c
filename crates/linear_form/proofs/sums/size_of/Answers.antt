-- That the sign is taken off.
use Rattle.std.proofs.Common.{sym, ◌∙◌}
use Rattle.ratio128.specs.Meant.{fraction}
use Rattle.linear_form.proofs.SumSteps.{size_below, size_other}
use Rattle.linear_form.proofs.sums.size_of.Goals as goal

pub returns-then-is_below_zero : goal.returns-then-is_below_zero
returns-then-is_below_zero c = c.neg.ensures ∙ size_below (fraction c.args.k) (sym c.if-is_below_zero.ensures)

pub returns-else-is_below_zero : goal.returns-else-is_below_zero
returns-else-is_below_zero c = size_other (fraction c.args.k) (sym c.if-is_below_zero.ensures)
