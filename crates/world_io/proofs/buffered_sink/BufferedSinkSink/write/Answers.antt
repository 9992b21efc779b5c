-- A prefix of the piece waits too.
use Rattle.std.proofs.Common.{◌∙◌, take, drop, ap, sym, subst, arith}
use Rattle.std.proofs.lemmas.List.{drop-append-le}
use Rattle.world_io.specs.Writing.{Sent}
use Rattle.world_io.specs.Buffering.{buffered, pending_in}
use Rattle.world_io.proofs.Sending.{sent_both}
use Rattle.world_io.proofs.Buffering.{waits_too}
use Rattle.world_io.proofs.buffered_sink.BufferedSinkSink.write.Goals as goal

pub returns : goal.returns
returns g c =
    let old = c.make_room.new.self in
    let s = g.K.Sink.state old.sink in
    let piece = take c.min-n.result c.args.buf.now in
    let waits = ap (drop old.from) c.append_reserved.ensures.items ∙ drop-append-le old.from old.bytes.items piece (omega (arith, old.within.0, old.bytes.ok.0)) in
    record {
      within = omega (arith, c.min-n.ensures);
      some = λ h. omega (arith, c.min-n.ensures, c.len.ensures, c.in_ok-make_room.ensures.free);
      sent = sent_both _ piece _ _ _ c.in_ok-make_room.ensures.sends (subst (λ w. Sent piece (buffered s (pending_in old)) (buffered s w)) (sym waits) (waits_too s (pending_in old) piece));
    }
