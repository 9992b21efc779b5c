use Rattle.std.proofs.Common.{sym, ◌∙◌, Equal, Greater}
use Rattle.tableau.specs.Numbers.{number_of}
use Rattle.tableau.proofs.Comparing.{less_at, not_less_at}
use Rattle.tableau.proofs.numbers.less.Goals as goal

pub returns-in-Less : goal.returns-in-Less
returns-in-Less c = less_at (number_of c.args.a) (number_of c.args.b) (sym c.cmp.ensures ∙ c.in-Less.is)

pub returns-in-Equal : goal.returns-in-Equal
returns-in-Equal c = not_less_at (number_of c.args.a) (number_of c.args.b) Equal (sym c.cmp.ensures ∙ c.in-Equal.is) (λ e. cc)

pub returns-in-Greater : goal.returns-in-Greater
returns-in-Greater c = not_less_at (number_of c.args.a) (number_of c.args.b) Greater (sym c.cmp.ensures ∙ c.in-Greater.is) (λ e. cc)
