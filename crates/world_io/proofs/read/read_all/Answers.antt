-- What was read past the limit.
use Rattle.std.proofs.Common.{arith, ◌∙◌}
use Rattle.world_io.proofs.Pieces.{cut_of}
use Rattle.world_io.proofs.read.read_all.Goals as goal

pub returns-clause-end : goal.returns-clause-end
returns-clause-end g c = cut_of _ _ c.in_ok-text.text.items _ _ (omega arith) (c.from-2.ensures ∙ c.truncate.ensures.items) c.in_ok-text.ensures.taken
