-- That the clause has two literals, of which the second is a choice's equality, or is not of the rule.
use Rattle.rule_eq.proofs.TwoLiterals.{then_two, then_none}
use Rattle.rule_eq.proofs.choices.rule_x_ite_then.Goals as goal

pub returns-in_default : goal.returns-in_default
returns-in_default c = then_two c.args.table.now _ c.args.clause.now c.in_default.ensures

pub returns-in_default-choice_of : goal.returns-in_default-choice_of
returns-in_default-choice_of c = then_none c.args.table.now _ c.args.clause.now c.in-Some.literal c.in-Some.equality c.in-Some.ensures c.in_default-choice_of.ensures
