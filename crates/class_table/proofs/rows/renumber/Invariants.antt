use Rattle.std.proofs.Common.{◌≡◌, ◌-◌, ◌<◌, length}
use Rattle.class_table.specs.Rings.{walk, set_each}
use Rattle.class_table.proofs.rows.renumber.Given as goal

abbrev pub invariant-loop : goal.invariant-loop
invariant-loop l = record {
  inside : l.at < length l.next.items;
  sized : length l.numbers.items ≡ length l.next.items;
  left : set_each l.numbers.items l.into (walk l.next.items (l.count - l.counter) l.at) ≡ set_each l.fn.numbers.items l.into (walk l.next.items l.count l.start);
}
