use Rattle.std.proofs.Common.{◌≡◌, ◌≤◌, ◌⊎◌, length, take}
use Rattle.congruence_relation.specs.Relation.{applications}
use Rattle.congruence_closure.specs.Tables.{lists, IsIndexed}
use Rattle.congruence_closure.proofs.listing.Listing.cut.Given as goal

abbrev pub invariant-newest : goal.invariant-newest
invariant-newest l = record {
  indexed : IsIndexed (applications l.self-inside.listed.items) l.self-inside.places.items (lists l.self-inside.users.items);
  kept : applications l.self-inside.listed.items ≡ take (length l.self-inside.listed.items) l.fn.self;
  fits : length l.self-inside.listed.items ≤ length l.fn.self;
  enough : (length l.self-inside.listed.items ≡ length l.fn.self) ⊎ (l.count ≤ length l.self-inside.listed.items);
}

abbrev pub decreases-newest : goal.decreases-newest
decreases-newest l = length l.self-inside.listed.items
