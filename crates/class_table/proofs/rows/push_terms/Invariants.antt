use Rattle.std.proofs.Common.{◌≡◌, ◌-◌, ◌+◌, ◌≤◌, ◌++◌, length, replicate, vec_len, vec_capacity}
use Rattle.std.specs.List.{range_with_len}
use Rattle.class_table.proofs.rows.push_terms.Given as goal

abbrev pub invariant-loop : goal.invariant-loop
invariant-loop l = record {
  room : vec_len l.numbers + (l.more - l.counter) ≤ vec_capacity l.numbers;
  next_room : vec_len l.next + (l.more - l.counter) ≤ vec_capacity l.next;
  sizes_room : vec_len l.sizes + (l.more - l.counter) ≤ vec_capacity l.sizes;
  sized : vec_len l.next ≡ vec_len l.numbers;
  numbers : l.numbers.items ≡ l.fn.numbers.items ++ range_with_len (length l.fn.numbers.items) l.counter;
  next : l.next.items ≡ l.fn.next.items ++ range_with_len (length l.fn.numbers.items) l.counter;
  sizes : l.sizes.items ≡ l.fn.sizes.items ++ replicate l.counter 1;
}
