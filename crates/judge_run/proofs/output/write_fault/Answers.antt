-- The line of the fault is written and passed on; there is room for it where there is for the longest one.
use Rattle.std.proofs.Common.{◌≡◌, ◌≤◌, ◌∙◌, length, sym, subst, arith}
use Rattle.world_io.proofs.Sending.{room_for_less}
use Rattle.spec_models.specs.Replies.{error_text}
use Rattle.smt_session.specs.Sessions.{Delivers}
use Rattle.smt_session.proofs.Delivering.{delivered}
use Rattle.judge_run.specs.Judgings.{longest_line}
use Rattle.judge_run.specs.Calls.{kind_named}
use Rattle.judge_run.proofs.Lengths.{line_fits, fits_in}
use Rattle.judge_run.proofs.output.write_fault.Goals as goal

pub returns-clause-sends : goal.returns-clause-sends
returns-clause-sends g c =
    let p = c.args.fault.place in
    let name : c.as_bytes.result.now ≡ kind_named c.args.fault.kind = c.as_bytes.ensures.value ∙ c.name.ensures in
    subst (λ n. Delivers (error_text p.line p.col n) c.flush.result (g.K.Sink.state c.args.out.now) (g.K.Sink.state c.flush.new.self)) name
    (delivered (error_text p.line p.col c.as_bytes.result.now) c.flush.result _ _ _ c.in_ok-error.ensures c.flush.ensures)

pub returns-clause-short : goal.returns-clause-short
returns-clause-short g c = line_fits c.args.fault.place.line c.args.fault.place.col c.args.fault.kind (omega arith) (omega arith)

pub returns-in_err-error-clause-room : goal.returns-in_err-error-clause-room
returns-in_err-error-clause-room g c = λ room.
    let p = c.args.fault.place in
    let name : c.as_bytes.result.now ≡ kind_named c.args.fault.kind = c.as_bytes.ensures.value ∙ c.name.ensures in
    let short = subst (λ n. length (error_text p.line p.col n) ≤ longest_line) (sym name) (line_fits p.line p.col c.args.fault.kind (omega arith) (omega arith)) in
    absurd (c.in_err-error.ensures.room (room_for_less (g.K.Sink.state c.args.out.now) longest_line _ short room))

pub returns-clause-room : goal.returns-clause-room
returns-clause-room g c = λ room.
    let p = c.args.fault.place in
    let name : c.as_bytes.result.now ≡ kind_named c.args.fault.kind = c.as_bytes.ensures.value ∙ c.name.ensures in
    let short = subst (λ n. length (error_text p.line p.col n) ≤ longest_line) (sym name) (line_fits p.line p.col c.args.fault.kind (omega arith) (omega arith)) in
    fits_in (error_text p.line p.col c.as_bytes.result.now) c.flush.result _ _ (delivered _ c.flush.result _ _ _ c.in_ok-error.ensures c.flush.ensures) short room

pub returns-in_err-error-clause-short : goal.returns-in_err-error-clause-short
returns-in_err-error-clause-short g c = line_fits c.args.fault.place.line c.args.fault.place.col c.args.fault.kind (omega arith) (omega arith)
