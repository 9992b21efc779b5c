-- The values of the terms up to here, and that there is room for all.
use Rattle.std.proofs.Common.{◌<◌, length, take, map, All}
use Rattle.ratio128.specs.Meant.{fraction}
use Rattle.search_model.specs.Models.{values_of}
use Rattle.search_model.specs.Made.{IsValueOf}
use Rattle.search_model.proofs.values.listed_values.Given as goal

abbrev pub invariant-terms : goal.invariant-terms
invariant-terms l = record {
  room : All (λ id. id.0 < length l.values.items) l.terms;
  each : All (IsValueOf l.table (values_of l.table l.trail.literals l.terms l.classes (map fraction l.numbers)) l.values.items) (take l.at l.terms);
}
