-- Nothing came where the rule does not judge it.
use Rattle.std.proofs.Common.{[]}
use Rattle.term_clauses.proofs.Growing.{Grows-self}
use Rattle.clausify.proofs.judged.state_judged.Goals as goal

pub returns-in_err-judge-clause-grows : goal.returns-in_err-judge-clause-grows
returns-in_err-judge-clause-grows c = Grows-self [] c.args.table.now c.args.log.now c.requires.log
