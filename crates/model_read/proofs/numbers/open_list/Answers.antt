-- That a list is a negation, a quotient, or nothing.
use Rattle.smt_sexpr.specs.Items.{trees_meant, tree_meant}
use Rattle.model_read.proofs.NumberTexts.{number_negated, number_divided, number_none}
use Rattle.model_read.proofs.numbers.open_list.Goals as goal

pub returns-in-Some : goal.returns-in-Some
returns-in-Some c end = (number_negated c.args.at end (trees_meant c.args.inside) (tree_meant c.in-Some.text) c.in-Some.ensures.shape, c.in-Some.ensures.less)

pub returns-in-Some-quotient_in : goal.returns-in-Some-quotient_in
returns-in-Some-quotient_in c end = (
  number_divided c.args.at end (trees_meant c.args.inside) (tree_meant c.in-Some-quotient_in.text) (tree_meant c.in-Some-quotient_in.divisor) c.in-None.ensures.shape c.in-Some-quotient_in.ensures.shape,
  c.in-Some-quotient_in.ensures.less,
)

pub returns-in-None-quotient_in : goal.returns-in-None-quotient_in
returns-in-None-quotient_in c end = number_none c.args.at end (trees_meant c.args.inside) c.fault_at.result c.in-None.ensures.shape c.in-None-quotient_in.ensures.shape c.fault_at.ensures
