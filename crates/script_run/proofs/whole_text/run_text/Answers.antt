-- What was written, with what it says.
use Rattle.check_evidence.specs.Evidence.{limits_meant}
use Rattle.smt_session.specs.Sessions.{mode_meant}
use Rattle.script_run.proofs.Saying.{says_so}
use Rattle.script_run.proofs.whole_text.run_text.Goals as goal

pub returns : goal.returns
returns g c = says_so c.answers_say_what_is_so.ensures.whole c.answers_say_what_is_so.ensures.begun (limits_meant c.args.limits.now) (mode_meant c.args.mode) c.args.bytes.now c.run_session.result _ _ c.run_session.ensures
