-- Terms keep their numbers while a table grows.
use Rattle.proof_log.proofs.Tables.{grown_right, grown_same}
use Rattle.proof_log.proofs.laws.logs_hold_in_grown_tables.Goals as goal

pub returns-clause-right : goal.returns-clause-right
returns-clause-right c = grown_right

pub returns-clause-same : goal.returns-clause-same
returns-clause-same c = grown_same
