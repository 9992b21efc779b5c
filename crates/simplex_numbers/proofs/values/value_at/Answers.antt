-- The value within the bound is the exact one.
use Rattle.simplex_numbers.proofs.Numbers.{value_is, value_told}
use Rattle.simplex_numbers.proofs.values.value_at.Goals as goal

pub returns-clause-exact : goal.returns-clause-exact
returns-clause-exact c = value_is c.args.a c.args.e c.at.result c.at.ensures

pub returns-clause-wide : goal.returns-clause-wide
returns-clause-wide c = value_told c.args.a c.args.e c.at.result c.at.ensures
