-- Where nothing is put, the table is as it was.
use Rattle.term_reader.proofs.Tables.{keeps_same}
use Rattle.model_judge.proofs.conjunctions.conjunction.Goals as goal

pub returns-in_err-node-clause-keeps : goal.returns-in_err-node-clause-keeps
returns-in_err-node-clause-keeps c = keeps_same c.args.table.now

pub returns-clause-keeps : goal.returns-clause-keeps
returns-clause-keeps c = keeps_same c.args.table.now
