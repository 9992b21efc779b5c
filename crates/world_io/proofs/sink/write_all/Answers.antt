-- The prefix that was written is all of the bytes, or it is not.
use Rattle.world_io.proofs.Sending.{prefix_is_short, prefix_is_whole}
use Rattle.world_io.proofs.sink.write_all.Goals as goal

pub returns-then-write_prefix-bytes : goal.returns-then-write_prefix-bytes
returns-then-write_prefix-bytes g c = prefix_is_short _ _ _ _ c.write_prefix.ensures c.if-write_prefix-bytes.true

pub returns : goal.returns
returns g c = prefix_is_whole _ _ _ _ c.write_prefix.ensures c.if-write_prefix-bytes.false
