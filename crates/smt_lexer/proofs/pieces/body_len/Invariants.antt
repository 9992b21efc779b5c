-- The body goes on after the bytes that were passed.
use Rattle.std.proofs.Common.{length, ◌-◌, ◌≤◌}
use Rattle.smt_lexer.proofs.Strings.{GoesOn}
use Rattle.smt_lexer.proofs.pieces.body_len.Given as goal

abbrev pub invariant-loop-n : goal.invariant-loop-n
invariant-loop-n l = record { within : l.n ≤ length l.bytes; body : GoesOn l.bytes l.n }

abbrev pub decreases-loop-n : goal.decreases-loop-n
decreases-loop-n l = length l.bytes - l.n
