-- The first command, the next one, and the end of the text.
use Rattle.std.proofs.Common.{◌∙◌, refl, sym}
use Rattle.spec_sessions.specs.States.{first_state}
use Rattle.spec_sessions.specs.Transcripts.{state_left}
use Rattle.smt_sexpr.specs.Limited.{whole_of}
use Rattle.smt_top.proofs.Answering.{no_bytes, none_answered, all_answered, answered_next}
use Rattle.smt_top.proofs.answered.answer_all.Goals as goal

pub commands-init : goal.commands-init
commands-init c = record {
  place = c.start-place.ensures.place;
  answered = none_answered (whole_of c.args.text) c.args.session.now c.start-place.result.offset c.args.out.now.written c.start-place.ensures.offset c.requires.session c.requires.mode c.requires.empty;
}

pub returns-in-Ok-None : goal.returns-in-Ok-None
returns-in-Ok-None c =
    let end = rw c.in-Ok-None.field-0-is at c.in-Ok-None.ensures in
    all_answered _ (whole_of c.args.text) c.commands.session c.commands.place.offset c.commands.out.written c.commands.invariant.answered end.0 end.1

pub commands-preserved : goal.commands-preserved
commands-preserved c =
    let reads = rw c.in-Ok-Some.field-0-is at c.in-Ok-Some.ensures in
    let i = c.commands.invariant.answered in
    let stepped = rw c.in-Ok-Went.field-0-is at (c.in-Ok-Went.ensures.stepped (state_left first_state i.given) i.represents) in
    let empty = sym c.written.ensures ∙ no_bytes _ (sym c.is_empty.ensures ∙ c.if-not-is_empty.false) in
    record {
      place = reads.is.place;
      answered = answered_next _ (whole_of c.args.text) c.commands.session c.commands.place.offset c.commands.out.written i empty
          c.in-Ok-Some.read.0 c.commands.place c.in-Ok-Some.read.1 reads refl c.step.new.self stepped.0 stepped.1 stepped.2 c.in-Ok-Went.ensures.same c.step.new.out.written stepped.3.0.appended;
    }
