-- What was written is the prefix that is counted.
use Rattle.std.proofs.Common.{length, ◌-◌, ◌≤◌, take}
use Rattle.world_io.specs.Writing.{Sent}
use Rattle.world_io.proofs.sink.write_prefix.Given as goal

abbrev pub invariant-pieces : goal.invariant-pieces
invariant-pieces g l = record {
  within : l.count ≤ length l.bytes;
  sent : Sent (take l.count l.bytes) (g.K.Sink.state l.fn.out) (g.K.Sink.state l.out);
}

abbrev pub decreases-pieces : goal.decreases-pieces
decreases-pieces g l = length l.bytes - l.count
