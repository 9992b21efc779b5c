use Rattle.std.proofs.Common.{◌∙◌, sym}
use Rattle.agreement.proofs.Orders.{of_one_value, of_two_values, not_equal}
use Rattle.agreement.proofs.agreeing.concur.Goals as goal

pub returns-in-Equal : goal.returns-in-Equal
returns-in-Equal c = of_one_value c.args.a c.args.b (sym c.cmp.ensures ∙ c.in-Equal.is)

pub returns-in-Less : goal.returns-in-Less
returns-in-Less c = of_two_values c.args.a c.args.b (λ e. not_equal c.cmp.result c.in-Less.is (c.cmp.ensures ∙ e))
