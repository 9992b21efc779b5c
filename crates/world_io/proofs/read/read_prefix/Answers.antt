-- What was read up to so many bytes.
use Rattle.std.proofs.Common.{◌∙◌}
use Rattle.world_io.proofs.Pieces.{prefix_of}
use Rattle.world_io.proofs.read.read_prefix.Goals as goal

pub returns-clause-bytes : goal.returns-clause-bytes
returns-clause-bytes g c = prefix_of _ _ c.in_ok-text.text.items _ _ (c.from.ensures ∙ c.truncate.ensures.items) c.in_ok-text.ensures.whole c.in_ok-text.ensures.taken
