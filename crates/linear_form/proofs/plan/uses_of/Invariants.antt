-- The places up to here, before those of the terms that are left.
use Rattle.std.proofs.Common.{◌≡◌, ◌<◌, ◌++◌, length, drop, All}
use Rattle.std.specs.List.{flat_map}
use Rattle.linear_form.specs.Walks.{needed_at, numbers_at}
use Rattle.linear_form.proofs.plan.uses_of.Given as goal

abbrev pub invariant-terms : goal.invariant-terms
invariant-terms l = record {
  same : numbers_at l.order l.uses.items ++ flat_map (needed_at l.table) (drop l.at l.order) ≡ flat_map (needed_at l.table) l.order;
  inside : All (λ j. j < length l.order) l.uses.items;
}
