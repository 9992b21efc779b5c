use Rattle.std.proofs.Common.{◌≡◌, ◌-◌, ◌+◌, ◌<◌, ◌≤◌, ◌++◌, length, map, vec_len, vec_capacity}
use Rattle.class_table.specs.Rings.{walk}
use Rattle.class_table.proofs.rows.list_ring.Given as goal

abbrev pub invariant-loop : goal.invariant-loop
invariant-loop l = record {
  inside : l.at < length l.next.items;
  room : vec_len l.terms + (l.count - l.counter) ≤ vec_capacity l.terms;
  left : l.terms.items ++ map (λ n. record { 0 = n }) (walk l.next.items (l.count - l.counter) l.at) ≡ map (λ n. record { 0 = n }) (walk l.next.items l.count l.start);
}
