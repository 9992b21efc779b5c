-- Each clause is one of the first, or a named one rests on it.
use Rattle.proof_log.proofs.KeptSound.{below_reached}
use Rattle.proof_log.proofs.laws.cut_logs_name_what_they_reach.Goals as goal

pub returns : goal.returns
returns c old new len n names renamed h earlier there first within = below_reached old new len names renamed h n earlier there first within
