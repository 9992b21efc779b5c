-- What came is answered, and then more is read.
use Rattle.std.proofs.Common.{◌∙◌, [], refl, sym, ap, Err, arith}
use Rattle.std.proofs.lemmas.Bool.{false≢true}
use Rattle.world_io.proofs.Sending.{rose_after}
use Rattle.sexpr_stream.proofs.Pieces.{begun}
use Rattle.check_evidence.specs.Evidence.{limits_meant}
use Rattle.smt_session.specs.Sessions.{mode_meant}
use Rattle.script_run.specs.declared.status.Status.TheVariants.{Memory}
use Rattle.script_run.specs.Scripts.{run_start}
use Rattle.script_run.proofs.Going.{begins, memory_in, answered_up_to}
use Rattle.script_run.proofs.Leaving.{nothing_read, read_none, taken_of, what_is_left, ends_reading}
use Rattle.script_run.proofs.Turning.{turned, turned_less, no_read_fault}
use Rattle.script_run.proofs.script.run_pieces.Goals as goal

pub turns-init : goal.turns-init
turns-init g c = record {
  fed = [];
  going = begins (run_start c.args.session.now.limits c.args.session.now.mode (g.K.Sink.state c.args.out.now)) c.args.stream.now c.args.session.now (begun c.args.stream.now c.requires.empty c.requires.start) c.requires.session refl refl;
  read = nothing_read (g.F.Shelf.left c.args.shelf.now);
  few = omega arith;
  closed = λ e. absurd (false≢true (sym c.requires.open ∙ e));
  size = refl;
  same = λ n. refl;
  count = omega arith;
  sound = λ s. s;
}

pub returns-in-Ended-clause-ends : goal.returns-in-Ended-clause-ends
returns-in-Ended-clause-ends g c =
    let i = c.turns.invariant in
    let b = run_start c.args.session.now.limits c.args.session.now.mode (g.K.Sink.state c.args.out.now) in
    ends_reading c.answers_say_what_is_so.ensures.whole c.answers_say_what_is_so.ensures.begun b c.in-Ended.status c.answer_held.new.stream (g.F.Shelf.left c.args.shelf.now) (g.F.Shelf.left c.turns.shelf) i.fed (g.K.Sink.state c.answer_held.new.out)
    i.read (λ e. i.closed (sym c.in-Ended.ensures.closed ∙ e)) (c.in-Ended.ensures.answered b i.fed i.going)

pub returns-in-Ended-clause-taken : goal.returns-in-Ended-clause-taken
returns-in-Ended-clause-taken g c = λ _. taken_of (g.F.Shelf.left c.args.shelf.now) (g.F.Shelf.left c.turns.shelf) c.turns.invariant.fed c.turns.invariant.read c.turns.invariant.few

pub returns-in-Ended-clause-failed : goal.returns-in-Ended-clause-failed
returns-in-Ended-clause-failed g c = λ e.
    let i = c.turns.invariant in
    let b = run_start c.args.session.now.limits c.args.session.now.mode (g.K.Sink.state c.args.out.now) in
    let r = what_is_left c.answer_held.new.stream (g.F.Shelf.left c.args.shelf.now) (g.F.Shelf.left c.turns.shelf) i.fed i.read (λ e. i.closed (sym c.in-Ended.ensures.closed ∙ e)) in
    absurd (no_read_fault (limits_meant c.args.session.now.limits) (mode_meant c.args.session.now.mode) _ c.in-Ended.status (g.K.Sink.state c.args.out.now) (g.K.Sink.state c.answer_held.new.out) (c.in-Ended.ensures.answered b i.fed i.going r.0 r.1) e)

pub returns-in-Ended-clause-sound : goal.returns-in-Ended-clause-sound
returns-in-Ended-clause-sound g c = λ s.
    let i = c.turns.invariant in
    let b = run_start c.args.session.now.limits c.args.session.now.mode (g.K.Sink.state c.args.out.now) in
    let r = what_is_left c.answer_held.new.stream (g.F.Shelf.left c.args.shelf.now) (g.F.Shelf.left c.turns.shelf) i.fed i.read (λ e. i.closed (sym c.in-Ended.ensures.closed ∙ e)) in
    (i.sound s, no_read_fault (limits_meant c.args.session.now.limits) (mode_meant c.args.session.now.mode) _ c.in-Ended.status (g.K.Sink.state c.args.out.now) (g.K.Sink.state c.answer_held.new.out) (c.in-Ended.ensures.answered b i.fed i.going r.0 r.1))

pub turns-smaller : goal.turns-smaller
turns-smaller g c =
    let b = run_start c.args.session.now.limits c.args.session.now.mode (g.K.Sink.state c.args.out.now) in
    let p = c.in-ForMore.ensures.answered b c.turns.invariant.fed c.turns.invariant.going in
    let r = c.in-Ok.ensures.piece in
    turned_less c.turns.stream c.answer_held.new.stream c.read_more.new.stream r.0 (g.F.Shelf.left c.turns.shelf) c.in-ForMore.ensures.bytes c.in-ForMore.ensures.closed p.1 r.3

pub turns-preserved : goal.turns-preserved
turns-preserved g c =
    let i = c.turns.invariant in
    let b = run_start c.args.session.now.limits c.args.session.now.mode (g.K.Sink.state c.args.out.now) in
    let p = c.in-ForMore.ensures.answered b i.fed i.going in
    let r = c.in-Ok.ensures.piece in
    let t = turned b i.fed c.answer_held.new.stream c.answer_held.new.session c.in-ForMore.told (g.K.Sink.state c.answer_held.new.out) p.0 p.1 (g.F.Shelf.left c.args.shelf.now) (g.F.Shelf.left c.turns.shelf) (g.F.Shelf.left c.read_more.new.shelf) i.read r.0 r.1 (omega (arith, r.2, i.size)) c.read_more.new.stream r.3 in
    record {
      fed = t.fed;
      going = t.going;
      read = t.read;
      few = t.few;
      closed = t.closed;
      size = c.in-Ok.ensures.size ∙ i.size;
      same = λ n. c.in-Ok.ensures.same n ∙ i.same n;
      count = omega (arith, i.count, c.in-Ok.ensures.count);
      sound = λ s. (c.in-Ok.ensures.sound (i.sound s)).0;
    }

pub returns-in-Err-Failed-clause-ends : goal.returns-in-Err-Failed-clause-ends
returns-in-Err-Failed-clause-ends g c =
    let i = c.turns.invariant in
    let b = run_start c.args.session.now.limits c.args.session.now.mode (g.K.Sink.state c.args.out.now) in
    let p = c.in-ForMore.ensures.answered b i.fed i.going in
    let k = rw c.in-Err-Failed.field-0-is at c.in-Err-Failed.ensures.piece in (
      i.fed,
      read_none (g.F.Shelf.left c.args.shelf.now) (g.F.Shelf.left c.turns.shelf) (g.F.Shelf.left c.read_more.new.shelf) i.fed i.read k.0,
      answered_up_to b i.fed c.answer_held.new.stream c.answer_held.new.session c.in-ForMore.told (g.K.Sink.state c.answer_held.new.out) p.0 c.answers_say_what_is_so.ensures.begun (λ text at. c.each_text_is_read.ensures text at 0) p.1,
    )

pub returns-in-Err-Failed-clause-taken : goal.returns-in-Err-Failed-clause-taken
returns-in-Err-Failed-clause-taken g c = λ _.
    let i = c.turns.invariant in
    let k = rw c.in-Err-Failed.field-0-is at c.in-Err-Failed.ensures.piece in
    taken_of (g.F.Shelf.left c.args.shelf.now) (g.F.Shelf.left c.read_more.new.shelf) i.fed (read_none (g.F.Shelf.left c.args.shelf.now) (g.F.Shelf.left c.turns.shelf) (g.F.Shelf.left c.read_more.new.shelf) i.fed i.read k.0) i.few

pub returns-in-Err-Failed-clause-same : goal.returns-in-Err-Failed-clause-same
returns-in-Err-Failed-clause-same g c = λ n. c.in-Err-Failed.ensures.same n ∙ c.turns.invariant.same n

pub returns-in-Err-Failed-clause-failed : goal.returns-in-Err-Failed-clause-failed
returns-in-Err-Failed-clause-failed g c = λ _. rose_after (g.F.Shelf.faults c.args.shelf.now) (g.F.Shelf.faults c.turns.shelf) (g.F.Shelf.faults c.read_more.new.shelf) c.turns.invariant.count (c.in-Err-Failed.ensures.failed (ap Err c.in-Err-Failed.field-0-is))

pub returns-in-Err-Failed-clause-sound : goal.returns-in-Err-Failed-clause-sound
returns-in-Err-Failed-clause-sound g c = λ s. absurd ((c.in-Err-Failed.ensures.sound (c.turns.invariant.sound s)).1 (ap Err c.in-Err-Failed.field-0-is))

pub returns-in-Err-Memory-clause-ends : goal.returns-in-Err-Memory-clause-ends
returns-in-Err-Memory-clause-ends g c =
    let i = c.turns.invariant in
    let b = run_start c.args.session.now.limits c.args.session.now.mode (g.K.Sink.state c.args.out.now) in
    let p = c.in-ForMore.ensures.answered b i.fed i.going in
    ends_reading c.answers_say_what_is_so.ensures.whole c.answers_say_what_is_so.ensures.begun b Memory c.answer_held.new.stream (g.F.Shelf.left c.args.shelf.now) (g.F.Shelf.left c.turns.shelf) i.fed (g.K.Sink.state c.answer_held.new.out)
    i.read (λ e. i.closed (sym c.in-ForMore.ensures.closed ∙ e)) (memory_in b i.fed c.answer_held.new.stream c.answer_held.new.session c.in-ForMore.told (g.K.Sink.state c.answer_held.new.out) p.0 (λ text at. c.each_text_is_read.ensures text at 0))

pub returns-in-Err-Memory-clause-same : goal.returns-in-Err-Memory-clause-same
returns-in-Err-Memory-clause-same g c = λ n. c.in-Err-Memory.ensures.same n ∙ c.turns.invariant.same n
