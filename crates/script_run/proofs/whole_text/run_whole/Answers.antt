-- All of the text is fed, and then no more comes.
use Rattle.std.proofs.Common.{◌∙◌, [], false, sym, refl, subst, append-nil, List, ℕ}
use Rattle.std.proofs.lemmas.Bool.{false≢true}
use Rattle.spec_text.specs.Readings.{kept}
use Rattle.sexpr_stream.proofs.Pieces.{begun, fed_on, closed_then as closes}
use Rattle.check_evidence.specs.Evidence.{limits_meant}
use Rattle.smt_session.specs.Sessions.{mode_meant}
use Rattle.script_run.specs.Runs.{RunsText}
use Rattle.script_run.specs.Scripts.{run_start}
use Rattle.script_run.proofs.Going.{begins, fed_more, closed_then}
use Rattle.script_run.proofs.TextRuns.{nothing_begun}
use Rattle.script_run.proofs.whole_text.run_whole.Goals as goal

pub returns-in_default : goal.returns-in_default
returns-in_default g c = nothing_begun (limits_meant c.args.session.now.limits) (mode_meant c.args.session.now.mode) c.args.bytes.now (g.K.Sink.state c.args.out.now) (c.each_text_is_read.ensures (kept c.args.bytes.now) 0 0)

pub returns-in-Ended : goal.returns-in-Ended
returns-in-Ended g c =
    let b = run_start c.args.session.now.limits c.args.session.now.mode (g.K.Sink.state c.args.out.now) in
    let first = begins b c.args.stream.now c.args.session.now (begun c.args.stream.now c.requires.empty c.requires.start) c.requires.session refl refl in
    let fed = fed_more b [] c.args.stream.now c.args.session.now false (g.K.Sink.state c.args.out.now) first fed_on c.args.bytes.now c.feed.new.self c.requires.open c.in-Ok.ensures.bytes c.in-Ok.ensures.place in
    let all = closed_then b c.args.bytes.now c.feed.new.self c.args.session.now false (g.K.Sink.state c.args.out.now) fed closes c.close.new.self c.close.ensures.bytes c.close.ensures.place c.close.ensures.closed in
    subst (λ (text : List ℕ). RunsText (limits_meant c.args.session.now.limits) (mode_meant c.args.session.now.mode) text c.in-Ended.status (g.K.Sink.state c.args.out.now) (g.K.Sink.state c.answer_held.new.out)) (append-nil c.args.bytes.now)
    (c.in-Ended.ensures.answered b c.args.bytes.now all [] (λ closed. refl))

pub returns-in-ForMore : goal.returns-in-ForMore
returns-in-ForMore g c =
    let b = run_start c.args.session.now.limits c.args.session.now.mode (g.K.Sink.state c.args.out.now) in
    let first = begins b c.args.stream.now c.args.session.now (begun c.args.stream.now c.requires.empty c.requires.start) c.requires.session refl refl in
    let fed = fed_more b [] c.args.stream.now c.args.session.now false (g.K.Sink.state c.args.out.now) first fed_on c.args.bytes.now c.feed.new.self c.requires.open c.in-Ok.ensures.bytes c.in-Ok.ensures.place in
    let all = closed_then b c.args.bytes.now c.feed.new.self c.args.session.now false (g.K.Sink.state c.args.out.now) fed closes c.close.new.self c.close.ensures.bytes c.close.ensures.place c.close.ensures.closed in
    let wants = (c.in-ForMore.ensures.answered b c.args.bytes.now all).1 in
    absurd (false≢true (sym wants.not_closed ∙ c.in-ForMore.ensures.closed ∙ c.close.ensures.closed))
