-- So many marks were put, and there is room for the others.
use Rattle.std.proofs.Common.{◌≡◌, ◌-◌, ◌+◌, ◌≤◌, ◌++◌, replicate, vec_len, vec_capacity}
use Rattle.assertion_stack.proofs.marks.fill.Given as goal

abbrev pub invariant-loop : goal.invariant-loop
invariant-loop l = record {
  room : vec_len l.marks + (l.n - l.counter) ≤ vec_capacity l.marks;
  put : l.marks.items ≡ l.fn.marks.items ++ replicate l.counter l.mark;
}
