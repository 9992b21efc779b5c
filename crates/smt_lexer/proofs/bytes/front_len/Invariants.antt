-- The run goes on after the bytes that were passed.
use Rattle.std.proofs.Common.{◌≡◌, ◌+◌, ◌≤◌, length, drop}
use Rattle.spec_text.specs.Bytes.{front}
use Rattle.smt_lexer.specs.Classes.{test_of}
use Rattle.smt_lexer.proofs.bytes.front_len.Given as goal

abbrev pub invariant-loop-b : goal.invariant-loop-b
invariant-loop-b l = record {
  n : l.n ≡ l.b-index;
  within : l.n ≤ length l.bytes;
  rest : l.n + length (front (test_of l.class) (drop l.n l.bytes)) ≡ length (front (test_of l.class) l.bytes);
}
