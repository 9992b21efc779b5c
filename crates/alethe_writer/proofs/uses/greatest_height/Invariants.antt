-- The greatest up to here, and those to come.
use Rattle.std.proofs.Common.{◌≡◌, drop}
use Rattle.std.specs.Prelude.{max}
use Rattle.alethe_writer.specs.Uses.{greatest_of}
use Rattle.alethe_writer.proofs.uses.greatest_height.Given as goal

abbrev pub invariant-ids : goal.invariant-ids
invariant-ids l = record { so_far : max l.deepest (greatest_of l.heights (drop l.id-index l.ids)) ≡ greatest_of l.heights l.ids }
