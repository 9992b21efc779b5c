-- The values up to here.
use Rattle.std.proofs.Common.{◌≡◌, map, take}
use Rattle.search_model.specs.Made.{value_at_id}
use Rattle.search_model.proofs.values.values_at.Given as goal

abbrev pub invariant-ids : goal.invariant-ids
invariant-ids l = l.found.items ≡ map (value_at_id l.values) (take l.id-index l.ids)
