-- That the premise is one term, or the step is none of the rule.
use Rattle.term_core.specs.Tables.{clause_at}
use Rattle.rule_eq.proofs.OnePremise.{not_alone, alone_in}
use Rattle.rule_eq.proofs.premise_rules.rule_symm.Goals as goal

pub returns-in_default : goal.returns-in_default
returns-in_default c = not_alone c.args.table.now c.args.premises.now (clause_at c.args.table.now c.args.clause.now) c.in_default.ensures

pub sides-requires : goal.sides-requires
sides-requires c = alone_in c.args.table.now c.args.premises.now c.in-Some.stated c.in-Some.ensures c.requires.premises
