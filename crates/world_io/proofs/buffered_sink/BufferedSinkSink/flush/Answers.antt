-- What waited was passed on, and then the sink was flushed.
use Rattle.world_io.proofs.Buffering.{flushed_below}
use Rattle.world_io.proofs.buffered_sink.BufferedSinkSink.flush.Goals as goal

pub returns : goal.returns
returns g c = flushed_below _ _ _ _ _ c.flush.result c.in_ok-write_pending.ensures.passed.0 c.in_ok-write_pending.ensures.passed.1 c.flush.ensures
