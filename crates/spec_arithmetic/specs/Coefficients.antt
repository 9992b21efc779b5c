-- The arguments of `la_generic`, by their texts: literals, `(- c)` and `(/ c d)` of such. Source: Alethe specification,
-- `la_generic`; a quotient by 0 and a literal beyond the bound on numbers are own.
use Rattle.std.specs.Prelude.{Bool, true, false, List, [], ◌∷◌, codes, if◌then◌else◌, ◌&&◌, Ok, Err}
use Rattle.std.specs.Str.{bytes_eq}
use Rattle.spec_text.specs.declared.Kind.{Kind}
use Rattle.spec_text.specs.declared.Kind.TheVariants.{Numeral, Decimal}
use Rattle.spec_text.specs.Bytes.{Name}
use Rattle.spec_text.specs.Shapes.{is_symbol}
use Rattle.spec_text.specs.Trees.{Tree, Trees, atom, list, none, more}
use Rattle.spec_numbers.specs.Fractions.{Fraction, opposite}
use Rattle.spec_numbers.specs.Bounds.{divided}
use Rattle.spec_sorts.specs.Numerals.{literal_value, is_wide}
use Rattle.spec_arithmetic.specs.Signs.{is_zero}
use Rattle.spec_arithmetic.specs.Forms.{Answer}
use Rattle.spec_arithmetic.specs.Contradictions.{Coefficient, given, too_wide, malformed}

-- a literal within the bound on numbers
abbrev pub literal_coefficient : Name → Coefficient
literal_coefficient n = if is_wide n then malformed else given (literal_value n)

-- an atom: a numeral or a decimal
abbrev pub atom_coefficient : Kind → Name → Coefficient
atom_coefficient Numeral n = literal_coefficient n
atom_coefficient Decimal n = literal_coefficient n
atom_coefficient k n = malformed

-- the number with the other sign
abbrev pub opposite_coefficient : Coefficient → Coefficient
opposite_coefficient (given c) = given (opposite c)
opposite_coefficient c = c

-- what an operation gives
abbrev pub coefficient_by : Answer Fraction → Coefficient
coefficient_by (Ok q) = given q
coefficient_by (Err w) = too_wide w

-- the quotient by a divisor, which the test says is 0 or not
abbrev pub quotient_unless : Bool → Coefficient → Fraction → Coefficient
quotient_unless true c d = malformed
quotient_unless false (given c) d = coefficient_by (divided c d)
quotient_unless false c d = c

-- the quotient: what is malformed is so first, then the first that leaves 128 bits
abbrev pub quotient_coefficient : Coefficient → Coefficient → Coefficient
quotient_coefficient malformed d = malformed
quotient_coefficient c malformed = malformed
quotient_coefficient (too_wide w) (too_wide v) = too_wide w
quotient_coefficient (given c) (too_wide w) = too_wide w
quotient_coefficient c (given d) = quotient_unless (is_zero d) c d

-- the word is this symbol
abbrev pub is_word_of : Name → Kind → Name → Bool
is_word_of n k w = is_symbol k && bytes_eq w n

-- the number that a text writes
unfoldable pub coefficient_of : Tree → Coefficient
coefficient_of (atom at k n) = atom_coefficient k n
coefficient_of (list at (more (atom x k w) (more c none)) end) =
    if is_word_of (codes "-") k w then opposite_coefficient (coefficient_of c) else malformed
coefficient_of (list at (more (atom x k w) (more c (more d none))) end) =
    if is_word_of (codes "/") k w then quotient_coefficient (coefficient_of c) (coefficient_of d) else malformed
coefficient_of t = malformed

-- the numbers that texts write, in their order
unfoldable pub coefficients_of : Trees → List Coefficient
coefficients_of none = []
coefficients_of (more t ts) = coefficient_of t ∷ coefficients_of ts
