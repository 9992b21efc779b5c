-- What was read, at the end and where there is enough.
use Rattle.world_io.proofs.Pieces.{consumes_nothing}
use Rattle.world_io.proofs.read.read_to.Goals as goal

pub returns-then-size-eq0-clause-taken : goal.returns-then-size-eq0-clause-taken
returns-then-size-eq0-clause-taken g c = consumes_nothing _ _ _ _ _ _ c.if-size-eq0.true c.turns.invariant.taken c.in_ok-size.ensures.moved
