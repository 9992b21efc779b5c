use Rattle.spec_tableaux.proofs.Steps.{stuck_has_none, crossed_has_none, done_meets}
use Rattle.spec_tableaux.proofs.laws.the_rule_answers_rightly.Goals as goal

pub returns : goal.returns
returns c d = record {
  done = done_meets;
  crossed = crossed_has_none;
  stuck = stuck_has_none;
}
