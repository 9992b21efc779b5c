-- What waited was passed on, or the sink failed.
use Rattle.world_io.proofs.Buffering.{passes_nothing}
use Rattle.world_io.proofs.buffered_sink.BufferedSink.make_room.Goals as goal

pub returns-then-len-ge-SIZE-clause-sends : goal.returns-then-len-ge-SIZE-clause-sends
returns-then-len-ge-SIZE-clause-sends g c = passes_nothing c.write_pending.result _ _ _ _ c.write_pending.ensures.passed
