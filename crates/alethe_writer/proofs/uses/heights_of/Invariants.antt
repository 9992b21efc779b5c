-- The heights up to here, and how many terms are in place.
use Rattle.std.proofs.Common.{◌≡◌, ◌≤◌}
use Rattle.spec_proof_texts.specs.Plans.{how_many}
use Rattle.alethe_writer.proofs.Heights.{AreHeightsTo}
use Rattle.alethe_writer.proofs.uses.heights_of.Given as goal

abbrev pub invariant-terms : goal.invariant-terms
invariant-terms l = record {
  so_far : AreHeightsTo l.table l.single l.number l.heights.items;
  places : l.places ≡ how_many l.heights.items;
  few : l.places ≤ l.number;
}
