-- That the clause has the arguments of the disjunction, or lacks one.
use Rattle.rule_bool.proofs.OnePremise.{opened, not_opened}
use Rattle.rule_bool.proofs.rules.rule_or.Goals as goal

pub returns-then-has_each : goal.returns-then-has_each
returns-then-has_each c arguments = opened c.args.table.now c.args.premises.now c.args.clause.now _ c.in-Some.ensures (rw c.as_slice.ensures at c.if-has_each.ensures)

pub returns : goal.returns
returns c arguments = not_opened c.args.table.now c.args.premises.now c.args.clause.now _ c.in-Some.ensures c.ids_are_unique.ensures c.requires.clause (rw c.as_slice.ensures at c.if-has_each.ensures)
