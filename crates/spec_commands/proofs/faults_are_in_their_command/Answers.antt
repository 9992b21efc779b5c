-- That faults are in their command.
use Rattle.spec_commands.proofs.Offsets.{step_fault_within}
use Rattle.spec_commands.proofs.faults_are_in_their_command.Goals as goal

pub returns : goal.returns
returns c = step_fault_within
