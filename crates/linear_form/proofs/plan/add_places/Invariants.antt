-- The places up to here.
use Rattle.std.proofs.Common.{◌≡◌, ◌<◌, ◌++◌, length, take, All}
use Rattle.term_walks.specs.Orders.{numbers_of}
use Rattle.linear_form.specs.Walks.{numbers_at}
use Rattle.linear_form.proofs.plan.add_places.Given as goal

abbrev pub invariant-ids : goal.invariant-ids
invariant-ids l = record {
  same : numbers_at l.order l.uses.items ≡ numbers_at l.order l.fn.uses.items ++ take l.at (numbers_of l.ids);
  inside : All (λ j. j < length l.order) l.fn.uses.items → All (λ j. j < length l.order) l.uses.items;
}
