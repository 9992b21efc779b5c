-- The classes of bytes that runs are made of, and lists of words.
use Rattle.std.specs.Prelude.{ℕ, Bool, List, map}
use Rattle.std.specs.Borrow.{Bor}
use Rattle.spec_text.specs.Bytes.{is_digit, is_symbol_byte, is_in_bars, is_in_comment}
use Rattle.smt_lexer.specs.declared.bytes.Class.{Class}
use Rattle.smt_lexer.specs.declared.bytes.Class.TheVariants.{Digit, Symbol, InBars, InComment}

-- the test of a class
abbrev pub test_of : Class → ℕ → Bool
test_of Digit = is_digit
test_of Symbol = is_symbol_byte
test_of InBars = is_in_bars
test_of InComment = is_in_comment

-- the bytes of words
abbrev pub texts_of : List (Bor (List ℕ)) → List (List ℕ)
texts_of words = map (λ w. w.now) words
