-- Only white space and comments were passed.
use Rattle.std.proofs.Common.{◌≡◌, ◌≤◌, ◌-◌, length}
use Rattle.spec_text.specs.Places.{IsPlaceOf}
use Rattle.spec_text.specs.Lexemes.{lexemes_from}
use Rattle.smt_lexer.proofs.next.Given as goal

abbrev pub invariant-loop-place : goal.invariant-loop-place
invariant-loop-place l = record {
  place : IsPlaceOf l.bytes l.place;
  behind : l.fn.at.offset ≤ l.place.offset;
  passed : lexemes_from l.bytes l.fn.at.offset ≡ lexemes_from l.bytes l.place.offset;
}

abbrev pub decreases-loop-place : goal.decreases-loop-place
decreases-loop-place l = length l.bytes - l.place.offset
