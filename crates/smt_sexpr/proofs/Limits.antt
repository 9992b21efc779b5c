-- Texts of which the first bytes are read.
use Rattle.std.proofs.Common.{◌≡◌, ℕ, true, List, length, take, Option, Some, None, sym, ap, subst, arith, nat_lt, length-take}
use Rattle.std.proofs.lemmas.Bool.Decides.{nat_tests}
use Rattle.spec_text.specs.declared.Fault.{Fault}
use Rattle.spec_text.specs.Faults.{Located}
use Rattle.spec_text.specs.Lexemes.{Lexeme, lexemes_from}
use Rattle.spec_text.specs.Readings.{EndsTrees, text_limit, kept, is_long}
use Rattle.smt_lexer.specs.declared.Refusal.{Refusal}
use Rattle.smt_sexpr.specs.Reads.{Breaks}
use Rattle.smt_sexpr.specs.Limited.{refusal_meant, CutsOff, StopsIn, IsStopped}

-- a prefix of a list that has more
pub long_prefix : (n : ℕ) (text : List ℕ) → nat_lt n (length text) ≡ true → length (take n text) ≡ n
long_prefix n text h = grind (arith, nat_tests, length-take n text)

-- of a text that is too long as many bytes are read as the limit says
pub long_kept : (text : List ℕ) → is_long text ≡ true → length (kept text) ≡ text_limit
long_kept text h = long_prefix text_limit text h

-- a fault at an offset
abbrev pub fault_at : Fault → ℕ → Located
fault_at f n = record { offset = n; fault = f }

-- what breaks the bytes that are read stops the text
pub stopped : (text bytes : List ℕ) (at n : ℕ) (r cut : Refusal) → bytes ≡ kept text → Breaks bytes n (lexemes_from bytes at) r → CutsOff text r cut → IsStopped text n (lexemes_from (kept text) at) cut
stopped text bytes at n r cut e b c =
    let k = subst (λ bs. Breaks bs n (lexemes_from bs at) r) e b in
    record { stop = Some (refusal_meant r); stops = k.0; is = ap Some (sym c.0); place = c.1 k.1 }

-- what stops the lexemes in no list stops the text
pub stops_in : (end : ℕ) (rest : List (ℕ × Lexeme)) (stop : Option Located) → StopsIn end 0 rest stop → EndsTrees end rest stop
stops_in end rest None h = h.1
stops_in end rest (Some f) h = h
