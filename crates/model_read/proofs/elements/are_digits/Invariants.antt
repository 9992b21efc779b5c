-- All are digits where those that are left are.
use Rattle.std.proofs.Common.{length}
use Rattle.spec_text.specs.Bytes.{is_digit}
use Rattle.spec_text.specs.Lexicon.{Consists}
use Rattle.model_read.proofs.elements.are_digits.Given as goal

abbrev pub invariant-digits : goal.invariant-digits
invariant-digits l = record {
  all : Consists is_digit l.rest → Consists is_digit l.bytes;
  rest : Consists is_digit l.bytes → Consists is_digit l.rest;
}

abbrev pub decreases-digits : goal.decreases-digits
decreases-digits l = length l.rest
