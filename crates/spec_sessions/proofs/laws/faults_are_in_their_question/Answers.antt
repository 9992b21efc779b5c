-- The fault of what is asked is in its tree.
use Rattle.spec_sessions.proofs.Offsets.{asked_fault_within}
use Rattle.spec_sessions.proofs.laws.faults_are_in_their_question.Goals as goal

pub returns : goal.returns
returns c = asked_fault_within
