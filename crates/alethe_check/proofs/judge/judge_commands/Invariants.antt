use Rattle.spec_checking.specs.Commands.{Known}
use Rattle.alethe_reader.specs.Holding.{IsKnown, HasKnown}
use Rattle.alethe_reader.specs.Remaining.{bytes_left}
use Rattle.alethe_check.proofs.Judged.{Going}
use Rattle.alethe_check.proofs.judge.judge_commands.Given as goal

abbrev pub invariant-commands : goal.invariant-commands
invariant-commands l = record {
  known : HasKnown l.state;
  going : (k : Known) → IsKnown l.fn.state k → Going l.fn.reader k l.state l.reader;
}

abbrev pub decreases-commands : goal.decreases-commands
decreases-commands l = bytes_left l.reader
