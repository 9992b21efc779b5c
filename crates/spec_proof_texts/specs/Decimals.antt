-- How a number is written in a term: as a numeral, or as the shortest decimal. Source: SMT-LIB 2.6, section 3.1; the
-- limit is own.
use Rattle.std.specs.Prelude.{ℕ, zero, suc, ◌+◌, ◌*◌, ◌/◌, ◌%◌, ◌^◌, ◌==◌, Bool, true, false, ◌&&◌, not, ℤ, pos, negsuc}
use Rattle.std.specs.Prelude.{nat_lt, List, [], ◌∷◌, ◌++◌, unsigned_abs, if◌then◌else◌}
use Rattle.spec_text.specs.declared.Kind.{Kind}
use Rattle.spec_text.specs.declared.Kind.TheVariants.{Numeral, Decimal}
use Rattle.spec_text.specs.Trees.{Tree, atom}
use Rattle.spec_numbers.specs.Fractions.{Fraction}
use Rattle.spec_sorts.specs.Numerals.{literal_value, is_wide}
use Rattle.spec_sorts.specs.Terms.{same_fraction}
use Rattle.spec_models.specs.Values.{numeral, fraction_tree}

-- the last digits of a number, so many of them
abbrev pub last_digits : ℕ → ℕ → List ℕ
last_digits zero n = []
last_digits (suc k) n = last_digits k (n / 10) ++ (48 + n % 10) ∷ []

-- the least number of places after the point, of those from one on, at which a denominator leaves no remainder; in at
-- most so many steps
abbrev pub places_from : ℕ → ℕ → ℕ → ℕ
places_from zero k d = k
places_from (suc n) k d = if 10 ^ k % d == 0 then k else places_from n (suc k) d

-- how many digits a number has after its point; what has more than 38 is cut there
unfoldable pub places : Fraction → ℕ
places q = places_from 38 0 q.den

-- the number without its sign, in units of its last place
abbrev pub in_last_place : Fraction → ℕ
in_last_place q = unsigned_abs q.num * 10 ^ places q / q.den

-- a point, and the digits after it, where there are any
abbrev pub behind_point : ℕ → ℕ → List ℕ
behind_point zero n = []
behind_point (suc k) n = 46 ∷ last_digits (suc k) n

-- the digits of a number without its sign, and its point
unfoldable pub literal_text : Fraction → List ℕ
literal_text q = numeral (in_last_place q / 10 ^ places q) ++ behind_point (places q) (in_last_place q)

-- a numeral where there are no places after the point, else a decimal
abbrev pub literal_kind : ℕ → Kind
literal_kind zero = Numeral
literal_kind (suc k) = Decimal

-- a number below 0
abbrev pub is_below_zero : ℤ → Bool
is_below_zero (pos n) = false
is_below_zero (negsuc n) = true

-- the number can be written with a point, if need be: it is not below 0, leaves no remainder at its last place, and is
-- there within the limit on numbers
unfoldable pub has_decimal : Fraction → Bool
has_decimal q = not (is_below_zero q.num) && (10 ^ places q % q.den == 0 && nat_lt (in_last_place q) (2 ^ 127))

-- a number in place; one that has no decimal is written as its value is, which no term is read from
abbrev pub literal_tree : Fraction → Tree
literal_tree q = if has_decimal q then atom 0 (literal_kind (places q)) (literal_text q) else fraction_tree q

-- the number is that of its decimal, as it is read
unfoldable pub is_decimal : Fraction → Bool
is_decimal q = has_decimal q && (same_fraction (literal_value (literal_text q)) q && not (is_wide (literal_text q)))
