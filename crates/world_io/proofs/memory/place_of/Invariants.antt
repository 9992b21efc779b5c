-- No entry up to here has the name.
use Rattle.std.proofs.Common.{◌≡◌, drop, map}
use Rattle.world_io.specs.Memory.{text_named, bytes_of_entry}
use Rattle.world_io.proofs.memory.place_of.Given as goal

abbrev pub invariant-loop-k : goal.invariant-loop-k
invariant-loop-k l = text_named (map bytes_of_entry (drop l.k l.texts)) l.name ≡ text_named (map bytes_of_entry l.texts) l.name
