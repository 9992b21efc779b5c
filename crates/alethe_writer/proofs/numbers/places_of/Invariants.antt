-- So many places were tried, and none was enough.
use Rattle.std.proofs.Common.{◌≡◌, ◌-◌, ◌^◌}
use Rattle.spec_proof_texts.specs.Decimals.{places_from}
use Rattle.alethe_writer.proofs.numbers.places_of.Given as goal

abbrev pub invariant-places : goal.invariant-places
invariant-places l = record {
  power : l.power ≡ 10 ^ l.count;
  same : places_from (38 - l.count) l.count l.den ≡ places_from 38 0 l.den;
}
