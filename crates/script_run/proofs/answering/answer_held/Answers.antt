-- Each end of the run, and each turn: the commands that were taken are answered in each text that goes on so.
use Rattle.std.proofs.Common.{◌||◌, ◌∙◌, sym, ap}
use Rattle.script_run.specs.Runs.{is_refusal}
use Rattle.script_run.proofs.TextRuns.{after_is, last_is_taken}
use Rattle.script_run.proofs.Going.{memory_in, done_in, fault_in, ended_in, write_failed_in, goes_on_after}
use Rattle.script_run.proofs.answering.answer_held.Goals as goal

pub returns-in-Err-Memory-step-clause-answered : goal.returns-in-Err-Memory-step-clause-answered
returns-in-Err-Memory-step-clause-answered g c b fed start =
    let k = rw c.in-Err-Memory-step.field-0-is at c.in-Err-Memory-step.ensures.stepped in
    rw k.0 (memory_in b fed c.commands.stream c.commands.session c.commands.refused (g.K.Sink.state c.commands.out) (c.commands.invariant.going b fed start)
    (λ text at. c.each_text_is_read.ensures text at 0))

pub returns-in-Err-Sink-clause-answered : goal.returns-in-Err-Sink-clause-answered
returns-in-Err-Sink-clause-answered g c b fed start =
    let i = c.commands.invariant.going b fed start in
    let k = (rw c.in-Err-Sink.field-0-is at c.in-Err-Sink.ensures.stepped) _ i.represents in
    let item = rw c.in-Ok-Item.field-0-is at c.in-Ok-Item.ensures in
    write_failed_in b fed c.commands.stream c.commands.session c.commands.refused (g.K.Sink.state c.commands.out) i c.what_is_next_stays.ensures.item c.faults_are_in_their_command.ensures c.faults_are_in_their_question.ensures
    c.in-Ok-Item.command c.in-Ok-Item.after item _ k.0 k.1 (λ text at. c.each_text_is_read.ensures text at 0) (g.K.Sink.state c.step.new.out) k.2

pub returns-in-Ok-More-clause-answered : goal.returns-in-Ok-More-clause-answered
returns-in-Ok-More-clause-answered g c b fed start = (c.commands.invariant.going b fed start, rw c.in-Ok-More.field-0-is at c.in-Ok-More.ensures)

pub returns-in-Ok-Done-clause-answered : goal.returns-in-Ok-Done-clause-answered
returns-in-Ok-Done-clause-answered g c b fed start =
    let end = rw c.in-Ok-Done.field-0-is at c.in-Ok-Done.ensures in
    rw c.ended_by.ensures (done_in b fed c.commands.stream c.commands.session c.commands.refused (g.K.Sink.state c.commands.out) (c.commands.invariant.going b fed start) end)

pub returns-in-Err-Fault-clause-answered : goal.returns-in-Err-Fault-clause-answered
returns-in-Err-Fault-clause-answered g c b fed start =
    let fault = rw c.in-Err-Fault.field-0-is at c.in-Err-Fault.ensures in
    fault_in b fed c.commands.stream c.commands.session c.commands.refused (g.K.Sink.state c.commands.out) (c.commands.invariant.going b fed start) c.what_is_next_stays.ensures.fault c.in-Err-Fault.refusal (g.K.Sink.state c.end_at.new.out) c.end_at.result
    fault (rw c.in-Err-Fault.field-0-is at c.end_at.ensures)

pub returns-in-Err-Memory-clause-answered : goal.returns-in-Err-Memory-clause-answered
returns-in-Err-Memory-clause-answered g c b fed start =
    memory_in b fed c.commands.stream c.commands.session c.commands.refused (g.K.Sink.state c.commands.out) (c.commands.invariant.going b fed start) (λ text at. c.each_text_is_read.ensures text at 0)

pub returns-then-is_last-clause-answered : goal.returns-then-is_last-clause-answered
returns-then-is_last-clause-answered g c b fed start =
    let i = c.commands.invariant.going b fed start in
    let item = rw c.in-Ok-Item.field-0-is at c.in-Ok-Item.ensures in
    let k = c.in-Ok.ensures.stepped _ i.represents in
    let last = sym c.is_last.ensures ∙ c.if-is_last.true in
    rw c.ended_by-then-is_last.ensures (ended_in b fed c.commands.stream c.commands.session c.commands.refused (g.K.Sink.state c.commands.out) i c.what_is_next_stays.ensures.item c.faults_are_in_their_command.ensures c.faults_are_in_their_question.ensures
    c.in-Ok-Item.command c.in-Ok-Item.after item _ k.0 k.1 (λ text at. c.each_text_is_read.ensures text at 0) (g.K.Sink.state c.step.new.out)
    ((after_is k.0.response c.in-Ok.told k.2).0 ∙ last) ((after_is k.0.response c.in-Ok.told k.2).1 ∙ last_is_taken c.in-Ok.told last) k.3)

pub commands-preserved : goal.commands-preserved
commands-preserved g c =
    let item = rw c.in-Ok-Item.field-0-is at c.in-Ok-Item.ensures in
    record {
      bytes = c.advance.ensures.bytes ∙ c.commands.invariant.bytes;
      closed = c.advance.ensures.closed ∙ c.commands.invariant.closed;
      going = λ b fed start.
          let i = c.commands.invariant.going b fed start in
          let k = c.in-Ok.ensures.stepped _ i.represents in
          goes_on_after b fed c.commands.stream c.commands.session c.commands.refused (g.K.Sink.state c.commands.out) i c.what_is_next_stays.ensures.item c.faults_are_in_their_command.ensures c.faults_are_in_their_question.ensures
          c.in-Ok-Item.command c.in-Ok-Item.after item c.step.new.session k.0 k.1 c.items_are_those_of_the_joined_pieces.ensures.taken c.advance.new.self c.advance.ensures.place c.advance.ensures.bytes c.advance.ensures.closed (g.K.Sink.state c.step.new.out)
          (is_refusal c.in-Ok.told) (c.commands.refused || c.is_refusal-refused.result) ((after_is k.0.response c.in-Ok.told k.2).0 ∙ sym c.is_last.ensures ∙ c.if-is_last.false) (after_is k.0.response c.in-Ok.told k.2).1
          (ap (λ z. c.commands.refused || z) c.is_refusal-refused.ensures) c.in-Ok.ensures.same k.3;
    }
