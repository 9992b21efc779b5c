-- The first terms keep their numbers.
use Rattle.proof_log.proofs.Tables.{cut_right, cut_same}
use Rattle.proof_log.proofs.laws.logs_hold_in_cut_tables.Goals as goal

pub returns-clause-right : goal.returns-clause-right
returns-clause-right c = cut_right

pub returns-clause-same : goal.returns-clause-same
returns-clause-same c = cut_same
