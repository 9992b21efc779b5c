-- What was copied is a prefix of what was left.
use Rattle.std.proofs.Common.{arith}
use Rattle.world_io.proofs.Places.{moved_front}
use Rattle.world_io.proofs.memory.copy_from.Goals as goal

pub returns-clause-moved : goal.returns-clause-moved
returns-clause-moved c = moved_front _ _ _ _ _ _ c.rest_of-left.ensures c.copy_from_slice.ensures.after (omega arith)
