-- The number or minus it, whichever is at least 0.
use Rattle.std.proofs.Common.{sym, ◌∙◌}
use Rattle.tableau.specs.Numbers.{number_of}
use Rattle.simplex_explain.proofs.Telling.{size_of_negative, size_of_other}
use Rattle.simplex_explain.proofs.weights.size.Goals as goal

pub returns-then-is_negative : goal.returns-then-is_negative
returns-then-is_negative c = size_of_negative (number_of c.args.a) (number_of c.negative.result) (sym c.is_negative.ensures ∙ c.if-is_negative.true) c.negative.ensures

pub returns-else-is_negative : goal.returns-else-is_negative
returns-else-is_negative c = size_of_other (number_of c.args.a) (sym c.is_negative.ensures ∙ c.if-is_negative.false)
