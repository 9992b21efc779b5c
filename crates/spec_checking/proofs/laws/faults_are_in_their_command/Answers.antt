-- Each fault is given at an offset of the command.
use Rattle.spec_checking.proofs.Offsets.{reading_within, judging_within}
use Rattle.spec_checking.proofs.laws.faults_are_in_their_command.Goals as goal

pub returns : goal.returns
returns c = record {
  reading = reading_within;
  judging = judging_within;
}
