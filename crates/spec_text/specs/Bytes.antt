-- Bytes by what they can be in. Source: SMT-LIB 2.6, section 3.1; where any other byte may be, own.
use Rattle.std.specs.Prelude.{ℕ, Bool, false, ◌&&◌, ◌||◌, not, List, [], ◌∷◌, codes, nat_le, ◌==◌, if◌then◌else◌}
use Rattle.std.specs.Str.{bytes_eq}

-- a name: a symbol's bytes without its bars
abbrev pub Name : Type 0
Name = List ℕ

-- whether a byte is one of these
abbrev pub one_of : List ℕ → ℕ → Bool
one_of [] b = false
one_of (c ∷ cs) b = b == c || one_of cs b

-- whether a name is one of these
abbrev pub among : List Name → Name → Bool
among [] n = false
among (m ∷ ms) n = bytes_eq m n || among ms n

-- tab, line feed, carriage return, space
abbrev pub is_blank : ℕ → Bool
is_blank b = one_of (9 ∷ 10 ∷ 13 ∷ 32 ∷ []) b

-- a comment goes up to a line feed or a carriage return, and may hold any other byte (own: the standard has printable
-- characters and white space there)
abbrev pub is_in_comment : ℕ → Bool
is_in_comment b = not (one_of (10 ∷ 13 ∷ []) b)

-- 0 to 9
abbrev pub is_digit : ℕ → Bool
is_digit b = nat_le 48 b && nat_le b 57

-- A to Z and a to z
abbrev pub is_letter : ℕ → Bool
is_letter b = (nat_le 65 b && nat_le b 90) || (nat_le 97 b && nat_le b 122)

-- letters, digits and ~ ! @ $ % ^ & * _ - + = < > . ? /
abbrev pub is_symbol_byte : ℕ → Bool
is_symbol_byte b = is_digit b || is_letter b || one_of (codes "~!@$%^&*_-+=<>.?/") b

-- a quoted symbol may hold any byte but the bar and the backslash (own: the standard has printable characters and white
-- space there)
abbrev pub is_in_bars : ℕ → Bool
is_in_bars b = not (one_of (124 ∷ 92 ∷ []) b)

-- the longest prefix whose bytes pass a test
abbrev pub front : (ℕ → Bool) → List ℕ → List ℕ
front test [] = []
front test (b ∷ bs) = if test b then b ∷ front test bs else []

-- the words that are no symbols without bars
abbrev pub reserved_words : List Name
reserved_words = codes "!" ∷ codes "_" ∷ codes "as" ∷ codes "BINARY" ∷ codes "DECIMAL" ∷ codes "exists"
    ∷ codes "HEXADECIMAL" ∷ codes "forall" ∷ codes "let" ∷ codes "match" ∷ codes "NUMERAL" ∷ codes "par"
    ∷ codes "STRING" ∷ codes "assert" ∷ codes "check-sat" ∷ codes "check-sat-assuming" ∷ codes "declare-const"
    ∷ codes "declare-datatype" ∷ codes "declare-datatypes" ∷ codes "declare-fun" ∷ codes "declare-sort"
    ∷ codes "define-fun" ∷ codes "define-fun-rec" ∷ codes "define-funs-rec" ∷ codes "define-sort" ∷ codes "echo"
    ∷ codes "exit" ∷ codes "get-assertions" ∷ codes "get-assignment" ∷ codes "get-info" ∷ codes "get-model"
    ∷ codes "get-option" ∷ codes "get-proof" ∷ codes "get-unsat-assumptions" ∷ codes "get-unsat-core"
    ∷ codes "get-value" ∷ codes "pop" ∷ codes "push" ∷ codes "reset" ∷ codes "reset-assertions" ∷ codes "set-info"
    ∷ codes "set-logic" ∷ codes "set-option" ∷ []
