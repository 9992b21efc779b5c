-- The lexicon as a table: which bytes spell which lexeme. Source: SMT-LIB 2.6, section 3.1. Own: strings, quoted
-- symbols and comments may hold any other byte, where the standard has printable characters and white space, and after
-- a keyword's colon may come any bytes of symbols, where it has a simple symbol.
use Rattle.std.specs.Prelude.{◌≡◌, ◌≢◌, ◌≤◌, ℕ, Bool, true, false, List, [], ◌∷◌, ◌++◌, length, take, drop, ◌==◌}
use Rattle.spec_text.specs.declared.Kind.TheVariants.{Numeral, Decimal, Text, Simple, Quoted, Reserved, Keyword}
use Rattle.spec_text.specs.Bytes.{is_blank, is_in_comment, is_digit, is_symbol_byte, is_in_bars, among, reserved_words}
use Rattle.spec_text.specs.Lexemes.{Lexeme, blank, opens, closes, word, wrong}

-- all bytes pass a test
abbrev pub Consists : (ℕ → Bool) → List ℕ → Type 0
Consists test [] = Unit {0}
Consists test (b ∷ bs) = (test b ≡ true) × Consists test bs

-- 0, or digits that do not begin with 0
pub data IsNumeral : List ℕ → Type 0 where
  only_zero : IsNumeral (48 ∷ [])
  digits : (d : ℕ) (ds : List ℕ) → d ≢ 48 → Consists is_digit (d ∷ ds) → IsNumeral (d ∷ ds)

-- the inside of a string: any bytes that are no quotes (own), and quotes in pairs
pub data IsInside : List ℕ → Type 0 where
  empty : IsInside []
  byte : (b : ℕ) (bs : List ℕ) → b ≢ 34 → IsInside bs → IsInside (b ∷ bs)
  pair : (bs : List ℕ) → IsInside bs → IsInside (34 ∷ 34 ∷ bs)

-- the table: these bytes are this lexeme
pub data Spells : List ℕ → Lexeme → Type 0 where
  white_space : (b : ℕ) → is_blank b ≡ true → Spells (b ∷ []) blank
  comment : (bs : List ℕ) → Consists is_in_comment bs → Spells (59 ∷ bs) blank
  open_parenthesis : Spells (40 ∷ []) opens
  close_parenthesis : Spells (41 ∷ []) closes
  numeral : (ds : List ℕ) → IsNumeral ds → Spells ds (word Numeral ds)
  decimal : (ds : List ℕ) (f : ℕ) (fs : List ℕ) → IsNumeral ds → Consists is_digit (f ∷ fs)
      → Spells (ds ++ 46 ∷ f ∷ fs) (word Decimal (ds ++ 46 ∷ f ∷ fs))
  string : (bs : List ℕ) → IsInside bs → Spells (34 ∷ bs ++ 34 ∷ []) (word Text bs)
  simple_symbol : (b : ℕ) (bs : List ℕ) → is_digit b ≡ false → Consists is_symbol_byte (b ∷ bs)
      → among reserved_words (b ∷ bs) ≡ false → Spells (b ∷ bs) (word Simple (b ∷ bs))
  reserved_word : (bs : List ℕ) → among reserved_words bs ≡ true → Spells bs (word Reserved bs)
  quoted_symbol : (bs : List ℕ) → Consists is_in_bars bs → Spells (124 ∷ bs ++ 124 ∷ []) (word Quoted bs)
  keyword : (b : ℕ) (bs : List ℕ) → Consists is_symbol_byte (b ∷ bs) → Spells (58 ∷ b ∷ bs) (word Keyword (b ∷ bs))

-- the bytes do not begin with one that passes a test
abbrev pub BeginsWithout : (ℕ → Bool) → List ℕ → Type 0
BeginsWithout test [] = Unit {0}
BeginsWithout test (b ∷ bs) = test b ≡ false

-- after a number comes no byte of symbols, and after a string no quote
abbrev pub CanFollow : Lexeme → List ℕ → Type 0
CanFollow (word Numeral name) rest = BeginsWithout is_symbol_byte rest
CanFollow (word Decimal name) rest = BeginsWithout is_symbol_byte rest
CanFollow (word Text name) rest = BeginsWithout (λ b. b == 34) rest
CanFollow x rest = Unit {0}

-- the first n bytes are this lexeme
pub record StartsWith (bytes : List ℕ) (n : ℕ) (x : Lexeme) : Type 0 where
  pub within : n ≤ length bytes
  pub spelled : Spells (take n bytes) x
  pub after : CanFollow x (drop n bytes)

-- the first n bytes are this lexeme, and no longer prefix is any
pub record IsLongest (bytes : List ℕ) (n : ℕ) (x : Lexeme) : Type 0 where
  pub begins : StartsWith bytes n x
  pub longest : (m : ℕ) (y : Lexeme) → StartsWith bytes m y → m ≤ n

-- the first lexeme is the longest that the bytes begin with, and where it is a fault they begin with none
abbrev pub IsFirst : List ℕ → Lexeme → ℕ → Type 0
IsFirst bytes (wrong f) n = (m : ℕ) (y : Lexeme) → StartsWith bytes m y → ⊥
IsFirst bytes blank n = IsLongest bytes n blank
IsFirst bytes opens n = IsLongest bytes n opens
IsFirst bytes closes n = IsLongest bytes n closes
IsFirst bytes (word k name) n = IsLongest bytes n (word k name)
