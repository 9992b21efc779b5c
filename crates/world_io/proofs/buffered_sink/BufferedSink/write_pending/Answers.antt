-- What was written is a prefix of what waited, and the rest waits.
use Rattle.std.proofs.Common.{◌+◌, List, ℕ, drop, subst, length-drop, arith}
use Rattle.std.proofs.lemmas.List.{take_rest, drop-drop}
use Rattle.world_io.specs.Writing.{NotFlushed}
use Rattle.world_io.specs.Buffering.{buffered}
use Rattle.world_io.proofs.Buffering.{some_waits}
use Rattle.world_io.proofs.buffered_sink.BufferedSink.write_pending.Goals as goal

pub returns-then-self-len-clause-passed : goal.returns-then-self-len-clause-passed
returns-then-self-len-clause-passed g c =
    let from = c.args.self.now.from in
    let n = c.write_prefix-n.result in
    let s = g.K.Sink.state c.args.self.now.sink in
    let t = g.K.Sink.state c.write_prefix-n.new.out in
    let P : List ℕ → Type 0 = λ bytes. NotFlushed (buffered s (drop from bytes)) (buffered t (drop (from + n) bytes)) in
    let waits = some_waits s t (drop from c.deref.result.now) n (rw take_rest at c.write_prefix-n.ensures) (omega (arith, length-drop from c.deref.result.now)) in
    subst P c.deref.ensures.value (rw drop-drop at waits)
