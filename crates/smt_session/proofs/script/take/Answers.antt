-- What is misshapen is refused.
use Rattle.std.proofs.Common.{refl, sym, subst}
use Rattle.spec_sessions.specs.Questions.{question_of}
use Rattle.smt_sexpr.specs.Items.{tree_of}
use Rattle.check_evidence.specs.Evidence.{limits_meant}
use Rattle.smt_session.specs.Sessions.{AskedKeeps}
use Rattle.smt_session.proofs.Answering.{asked_kept}
use Rattle.smt_session.proofs.Taking.{misshapen_as}
use Rattle.smt_session.proofs.script.take.Goals as goal

pub returns-in-Some-Err-clause-takes : goal.returns-in-Some-Err-clause-takes
returns-in-Some-Err-clause-takes c = λ s i.
    let e = rw c.in-Some-Err.field-0-is at c.in-Some-Err.ensures in
    misshapen_as (limits_meant c.args.limits.now) s c.args.sexpr.now c.in-Some-Err.refusal c.args.script.now e.0 e.1 i

pub returns-in-Some-Ok-clause-asked : goal.returns-in-Some-Ok-clause-asked
returns-in-Some-Ok-clause-asked c = asked_kept (question_of (tree_of c.args.sexpr.now)) c.args.script.now c.take_question.new.script c.take_question.ensures.same

pub returns-in-Some-Err-clause-asked : goal.returns-in-Some-Err-clause-asked
returns-in-Some-Err-clause-asked c = asked_kept (question_of (tree_of c.args.sexpr.now)) c.args.script.now c.args.script.now refl

pub returns-in-None-clause-asked : goal.returns-in-None-clause-asked
returns-in-None-clause-asked c =
    let e = rw c.in-None.is at c.question.ensures in
    subst (λ q. AskedKeeps q c.args.script.now c.take_command.new.script) (sym e) tt
