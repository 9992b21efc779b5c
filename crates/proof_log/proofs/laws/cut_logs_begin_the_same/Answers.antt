-- The first have their own numbers, and so have their premises.
use Rattle.proof_log.proofs.KeptSound.{first_there, first_same}
use Rattle.proof_log.proofs.laws.cut_logs_begin_the_same.Goals as goal

pub returns : goal.returns
returns c old new len names renamed h s below lt = (first_there old new len names renamed h s below lt, first_same old new len names renamed h s below lt)
