-- That a term gives the clause after the premise's complement, or no term does.
use Rattle.rule_eq.proofs.OnePremise.{alone_in}
use Rattle.rule_bool.proofs.Given.{not_turned_many, not_turned_front, turned_there, not_turned}
use Rattle.rule_bool.proofs.schemes.turned.Goals as goal

pub returns-in_default : goal.returns-in_default
returns-in_default c = not_turned_many c.args.table.now c.args.scheme.head c.args.scheme.positive c.args.scheme.rest c.args.premises.now c.args.clause.now c.in_default.ensures

pub turned_without_sign-requires : goal.turned_without_sign-requires
turned_without_sign-requires c = alone_in c.args.table.now c.args.premises.now _ c.in-Some.ensures c.requires.premises

pub returns-in_default-turned_without_sign : goal.returns-in_default-turned_without_sign
returns-in_default-turned_without_sign c = not_turned_front c.args.table.now c.args.scheme.head c.args.scheme.positive c.args.scheme.rest c.args.premises.now c.args.clause.now _ c.in-Some.ensures c.requires.form c.in_default-turned_without_sign.ensures

pub returns-then-gives_rest : goal.returns-then-gives_rest
returns-then-gives_rest c = turned_there c.args.table.now c.args.scheme.head c.args.scheme.positive c.args.scheme.rest c.args.premises.now c.args.clause.now _ c.in-Some.ensures _ c.in-Some-turned_without_sign.ensures c.if-gives_rest.ensures

pub returns : goal.returns
returns c = not_turned c.args.table.now c.args.scheme.head c.args.scheme.positive c.args.scheme.rest c.args.premises.now c.args.clause.now _ c.in-Some.ensures _ c.in-Some-turned_without_sign.ensures c.if-gives_rest.ensures
