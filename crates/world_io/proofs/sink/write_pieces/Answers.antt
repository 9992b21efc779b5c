-- One more piece was written after those before it, or a prefix of it.
use Rattle.world_io.proofs.Sending.{nothing_sent, piece_more, piece_fails, sends_failed}
use Rattle.world_io.proofs.sink.write_pieces.Goals as goal

pub loop-piece-init : goal.loop-piece-init
loop-piece-init g c = record { sent = nothing_sent _ }

pub loop-piece-preserved : goal.loop-piece-preserved
loop-piece-preserved g c = record { sent = piece_more (λ p. p.now) c.args.pieces.now c.loop-piece.piece-index _ _ _ _ c.loop-piece-test.true c.loop-piece.invariant.sent c.in_ok-write_all.ensures }

pub returns-in_err-write_all : goal.returns-in_err-write_all
returns-in_err-write_all g c = sends_failed _ _ _ _ c.from_residual.ensures.0 (piece_fails (λ p. p.now) c.args.pieces.now c.loop-piece.piece-index _ _ _ _ c.loop-piece-test.true c.loop-piece.invariant.sent c.in_err-write_all.ensures)
