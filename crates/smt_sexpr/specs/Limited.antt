-- What reading a text comes to of which the first 2^30 bytes are read. Source: SMT-LIB 2.6, section 3.2.
use Rattle.std.specs.Prelude.{◌≡◌, ℕ, false, List, [], length, Option, Some, None, Result, Ok, Err}
use Rattle.spec_text.specs.declared.Place.{Place}
use Rattle.spec_text.specs.Places.{IsPlaceOf}
use Rattle.spec_text.specs.Lexemes.{Lexeme, lexemes_from}
use Rattle.spec_text.specs.Faults.{Located}
use Rattle.spec_text.specs.Readings.{IsBroken, kept, is_long, at_limit, limited}
use Rattle.smt_lexer.specs.declared.Refusal.{Refusal}
use Rattle.smt_lexer.specs.declared.Refused.{Refused}
use Rattle.smt_lexer.specs.declared.Refused.TheVariants as refused
use Rattle.smt_sexpr.specs.declared.limited.LimitedText.{LimitedText}
use Rattle.smt_sexpr.specs.declared.reader.NextSexpr.{NextSexpr}
use Rattle.smt_sexpr.specs.declared.reader.NextSexpr.TheVariants as next
use Rattle.smt_sexpr.specs.declared.sexpr.Sexpr.{Sexpr}
use Rattle.smt_sexpr.specs.Reads.{ReadsSexpr, Closes}

-- the whole text
abbrev pub whole_of : LimitedText → List ℕ
whole_of t = t.text.now

-- a fault with its offset
abbrev pub refusal_meant : Refusal → Located
refusal_meant r = record { offset = r.place.offset; fault = r.fault }

-- a refusal of the bytes that are read is this one of the whole text
abbrev pub CutsOff : List ℕ → Refusal → Refusal → Type 0
CutsOff text r cut = (refusal_meant cut ≡ at_limit (is_long text) (refusal_meant r))
    × (IsPlaceOf (kept text) r.place → IsPlaceOf (kept text) cut.place)

-- what stops reading in n open lists: the end of the lexemes where none is open, or a fault
abbrev pub StopsIn : (end n : ℕ) → List (ℕ × Lexeme) → Option Located → Type 0
StopsIn end n rest None = (n ≡ 0) × (rest ≡ [])
StopsIn end n rest (Some f) = IsBroken end n rest f

-- in n open lists the lexemes of the bytes that are read stop with this fault of the whole text
pub record IsStopped (text : List ℕ) (n : ℕ) (xs : List (ℕ × Lexeme)) (r : Refusal) : Type 0 where
  -- what stops the bytes that are read
  pub stop : Option Located
  -- it comes first
  pub stops : StopsIn (length (kept text)) n xs stop
  -- it is that fault of the whole text
  pub is : limited (is_long text) stop ≡ Some (refusal_meant r)
  -- its place is one of the bytes that are read
  pub place : IsPlaceOf (kept text) r.place

-- an s-expression, or the end of the innermost open list, or the end of the whole text, or a fault of it
abbrev pub ReadsNextOf : List ℕ → Place → ℕ → Result NextSexpr Refused → Type 0
ReadsNextOf text from n (Ok (next.One s after)) = ReadsSexpr (kept text) from s after
ReadsNextOf text from n (Ok (next.Close after)) = Closes (kept text) from n after
ReadsNextOf text from n (Ok next.End) = (n ≡ 0) × (lexemes_from (kept text) from.offset ≡ []) × (is_long text ≡ false)
ReadsNextOf text from n (Err (refused.Fault r)) = IsStopped text n (lexemes_from (kept text) from.offset) r
ReadsNextOf text from n (Err refused.Memory) = Unit {0}

-- the same where no list is open
abbrev pub ReadsOneOf : List ℕ → Place → Result (Option (Sexpr × Place)) Refused → Type 0
ReadsOneOf text from (Ok (Some x)) = ReadsSexpr (kept text) from x.0 x.1
ReadsOneOf text from (Ok None) = (lexemes_from (kept text) from.offset ≡ []) × (is_long text ≡ false)
ReadsOneOf text from (Err (refused.Fault r)) = IsStopped text 0 (lexemes_from (kept text) from.offset) r
ReadsOneOf text from (Err refused.Memory) = Unit {0}
