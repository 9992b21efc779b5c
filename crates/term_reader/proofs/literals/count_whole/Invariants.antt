-- The run goes on after the bytes that were passed.
use Rattle.std.proofs.Common.{◌≡◌, ◌+◌, ◌≤◌, length, drop}
use Rattle.spec_sorts.specs.Numerals.{whole_digits}
use Rattle.term_reader.proofs.literals.count_whole.Given as goal

abbrev pub invariant-loop-b : goal.invariant-loop-b
invariant-loop-b l = record {
  n : l.n ≡ l.b-index;
  within : l.n ≤ length l.literal;
  rest : l.n + length (whole_digits (drop l.n l.literal)) ≡ length (whole_digits l.literal);
}
