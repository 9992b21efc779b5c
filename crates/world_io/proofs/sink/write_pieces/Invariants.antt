-- What was written are the pieces before this one.
use Rattle.std.proofs.Common.{take}
use Rattle.std.specs.Prelude.{flat_map}
use Rattle.world_io.specs.Writing.{Sent}
use Rattle.world_io.proofs.sink.write_pieces.Given as goal

abbrev pub invariant-loop-piece : goal.invariant-loop-piece
invariant-loop-piece g l = record {
  sent : Sent (flat_map (λ p. p.now) (take l.piece-index l.pieces)) (g.K.Sink.state l.fn.out) (g.K.Sink.state l.out);
}
