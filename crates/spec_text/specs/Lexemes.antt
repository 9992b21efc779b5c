-- The lexemes of a text, each with the offset of its first byte. Source: SMT-LIB 2.6, section 3.1; the faults are own.
use Rattle.std.specs.Prelude.{ℕ, zero, suc, ◌+◌, ◌-◌, List, [], ◌∷◌, ◌++◌, length, drop, Option, Some, None, option_map}
use Rattle.std.specs.Prelude.{◌==◌, if◌then◌else◌}
use Rattle.spec_text.specs.declared.Kind.{Kind}
use Rattle.spec_text.specs.declared.Kind.TheVariants.{Numeral, Decimal, Text, Simple, Quoted, Reserved, Keyword}
use Rattle.spec_text.specs.declared.Fault.{Fault}
use Rattle.spec_text.specs.declared.Fault.TheVariants.{BadChar, UnclosedString, UnclosedQuote}
use Rattle.spec_text.specs.Bytes.{Name, is_blank, is_in_comment, is_digit, is_symbol_byte, is_in_bars, among, front}
use Rattle.spec_text.specs.Bytes.{reserved_words}

-- White space and comments, parentheses, a word by its kind and its bytes (as written, but without quotes, bars or
-- colon), or a fault.
pub data Lexeme : Type 0 where
  blank opens closes : Lexeme
  word : Kind → List ℕ → Lexeme
  wrong : Fault → Lexeme

-- What bytes begin with, and how many of them it has; of a fault, how many are before it.
pub record Piece : Type 0 where
  pub lexeme : Lexeme
  pub size : ℕ

-- a lexeme with its number of bytes
abbrev pub piece : Lexeme → ℕ → Piece
piece x n = record { lexeme = x; size = n }

-- a number, if no byte of symbols follows it
abbrev pub ended : List ℕ → ℕ → Lexeme → Piece
ended [] n x = piece x n
ended (b ∷ bs) n x = if is_symbol_byte b then piece (wrong BadChar) n else piece x n

-- digits, a point, and the digits after it, of which there is one at least
abbrev pub decimal : List ℕ → List ℕ → List ℕ → Piece
decimal digits [] rest = piece (wrong BadChar) (length digits)
decimal digits (d ∷ ds) rest = ended rest (length digits + 1 + length (d ∷ ds)) (word Decimal (digits ++ 46 ∷ d ∷ ds))

-- digits, with the bytes after them
abbrev pub number : List ℕ → List ℕ → Piece
number digits [] = piece (word Numeral digits) (length digits)
number digits (b ∷ bs) = if b == 46 then decimal digits (front is_digit bs) (drop (length (front is_digit bs)) bs) else
    ended (b ∷ bs) (length digits) (word Numeral digits)

-- strings may hold any byte (own: the standard has printable characters and white space there)
unfoldable mutual
  -- the bytes after an opening quote up to the closing one, as written; there, two quotes stand for one
  pub string_body : List ℕ → Option (List ℕ)
  string_body [] = None
  string_body (b ∷ bs) = if b == 34 then after_quote bs else option_map (λ body. b ∷ body) (string_body bs)

  -- the same from after a quote on: with a second one it is a pair, else it was the closing one
  pub after_quote : List ℕ → Option (List ℕ)
  after_quote [] = Some []
  after_quote (b ∷ bs) = if b == 34 then option_map (λ body. 34 ∷ 34 ∷ body) (string_body bs) else Some []

-- a string by its body, or the fault where no quote closes it
abbrev pub string : Option (List ℕ) → Piece
string None = piece (wrong UnclosedString) 0
string (Some body) = piece (word Text body) (length body + 2)

-- a name after an opening bar, and what comes after the name
abbrev pub quoted : Name → List ℕ → Piece
quoted name [] = piece (wrong UnclosedQuote) 0
quoted name (b ∷ bs) = if b == 124 then piece (word Quoted name) (length name + 2) else piece (wrong BadChar)
    (length name + 1)

-- a keyword by its name after the colon, of which there is one byte at least; it may begin with a digit (own)
abbrev pub keyword : Name → Piece
keyword [] = piece (wrong BadChar) 0
keyword (b ∷ bs) = piece (word Keyword (b ∷ bs)) (length (b ∷ bs) + 1)

-- a symbol without bars by its name, or a reserved word
abbrev pub symbol : Name → Piece
symbol name = piece (word (if among reserved_words name then Reserved else Simple) name) (length name)

-- what a byte and the bytes after it begin with
unfoldable pub first_piece : ℕ → List ℕ → Piece
first_piece b bs =
    if is_blank b then piece blank 1
    else if b == 59 then piece blank (1 + length (front is_in_comment bs))
    else if b == 40 then piece opens 1
    else if b == 41 then piece closes 1
    else if b == 48 then number (48 ∷ []) bs
    else if is_digit b then number (b ∷ front is_digit bs) (drop (length (front is_digit bs)) bs)
    else if b == 34 then string (string_body bs)
    else if b == 124 then quoted (front is_in_bars bs) (drop (length (front is_in_bars bs)) bs)
    else if b == 58 then keyword (front is_symbol_byte bs)
    else if is_symbol_byte b then symbol (b ∷ front is_symbol_byte bs)
    else piece (wrong BadChar) 0

-- a lexeme at an offset, before those of the rest: nothing follows a fault, and white space is passed over
abbrev pub before : ℕ → Piece → List (ℕ × Lexeme) → List (ℕ × Lexeme)
before at p rest = by p.lexeme
  where
    by : Lexeme → List (ℕ × Lexeme)
    by blank = rest
    by (wrong f) = (at + p.size, wrong f) ∷ []
    by x = (at, x) ∷ rest

-- the lexemes of the bytes from an offset on, of which as many as the first number says belong to the lexeme before
unfoldable pub lexemes : ℕ → ℕ → List ℕ → List (ℕ × Lexeme)
lexemes n at [] = []
lexemes (suc n) at (b ∷ bs) = lexemes n (at + 1) bs
lexemes zero at (b ∷ bs) = before at (first_piece b bs) (lexemes ((first_piece b bs).size - 1) (at + 1) bs)

-- the lexemes of a text from an offset on
abbrev pub lexemes_from : List ℕ → ℕ → List (ℕ × Lexeme)
lexemes_from text at = lexemes 0 at (drop at text)
