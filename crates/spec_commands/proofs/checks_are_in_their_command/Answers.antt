-- That checks are in their command.
use Rattle.spec_commands.proofs.Offsets.{step_check_within}
use Rattle.spec_commands.proofs.checks_are_in_their_command.Goals as goal

pub returns : goal.returns
returns c = step_check_within
