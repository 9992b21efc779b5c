-- The numbers that numerals and decimals write. Source: SMT-LIB 2.6, section 3.1 and theory Reals; the limit is own.
use Rattle.std.specs.Prelude.{ℕ, suc, ◌*◌, ◌+◌, ◌-◌, ◌^◌, pos, Bool, ◌||◌, List, [], ◌∷◌, ◌++◌, length, drop, nat_le}
use Rattle.std.specs.Prelude.{◌==◌, if◌then◌else◌}
use Rattle.spec_text.specs.Bytes.{is_digit, front}
use Rattle.spec_numbers.specs.Fractions.{Fraction, lowest}

-- the digits before the point of a literal, or all of them
abbrev pub whole_digits : List ℕ → List ℕ
whole_digits literal = front is_digit literal

-- a digit before others that have lost the zeros at their end
abbrev pub before_trimmed : ℕ → List ℕ → List ℕ
before_trimmed d [] = if d == 48 then [] else d ∷ []
before_trimmed d (e ∷ es) = d ∷ e ∷ es

-- digits without the zeros at their end
abbrev pub trimmed : List ℕ → List ℕ
trimmed [] = []
trimmed (d ∷ ds) = before_trimmed d (trimmed ds)

-- the digits of a literal after its point, without the zeros at their end
abbrev pub point_digits : List ℕ → List ℕ
point_digits literal = trimmed (drop (suc (length (whole_digits literal))) literal)

-- the number that digits write after what those before them wrote
abbrev pub number_after : ℕ → List ℕ → ℕ
number_after n [] = n
number_after n (d ∷ ds) = number_after (n * 10 + (d - 48)) ds

-- the digits of a literal as one whole number
abbrev pub digits_number : List ℕ → ℕ
digits_number literal = number_after 0 (whole_digits literal ++ point_digits literal)

-- the number that a literal writes
unfoldable pub literal_value : List ℕ → Fraction
literal_value literal = lowest (pos (digits_number literal)) (10 ^ length (point_digits literal))

-- the digits as one whole number are above 2^127 - 1, or more than 38 are after the point
abbrev pub is_wide : List ℕ → Bool
is_wide literal = nat_le (2 ^ 127) (digits_number literal) || nat_le 39 (length (point_digits literal))
