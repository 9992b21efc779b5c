-- The session has stated nothing.
use Rattle.std.proofs.Common.{subst}
use Rattle.spec_text.specs.Readings.{kept}
use Rattle.sat_budget.specs.declared.limits.Limits.{Limits as CodeLimits}
use Rattle.check_evidence.specs.Evidence.{limits_meant}
use Rattle.smt_session.specs.declared.mode.Mode.{Mode as CodeMode}
use Rattle.smt_session.specs.Sessions.{mode_meant}
use Rattle.script_run.specs.Runs.{RunsText}
use Rattle.script_run.proofs.TextRuns.{nothing_begun}
use Rattle.script_run.proofs.whole_text.run_session.Goals as goal

pub returns-in_default : goal.returns-in_default
returns-in_default g c = nothing_begun (limits_meant c.args.limits.now) (mode_meant c.args.mode) c.args.bytes.now (g.K.Sink.state c.args.out.now) (c.each_text_is_read.ensures (kept c.args.bytes.now) 0 0)

pub run_whole-requires-clause-session : goal.run_whole-requires-clause-session
run_whole-requires-clause-session g c = c.in-Ok.ensures.begun.0

pub returns : goal.returns
returns g c =
    let begun = c.in-Ok.ensures.begun in
    subst (λ (l : CodeLimits). RunsText (limits_meant l) (mode_meant c.args.mode) c.args.bytes.now c.run_whole.result (g.K.Sink.state c.args.out.now) (g.K.Sink.state c.run_whole.new.out)) begun.1
    (subst (λ (m : CodeMode). RunsText (limits_meant c.in-Ok.session.limits) (mode_meant m) c.args.bytes.now c.run_whole.result (g.K.Sink.state c.args.out.now) (g.K.Sink.state c.run_whole.new.out)) begun.2 c.run_whole.ensures)
