-- The number of the digits before and after a point. Source: SMT-LIB 2.6, section 3.1; the limit is own.
use Rattle.std.specs.Prelude.{◌≡◌, ℕ, ◌^◌, pos, Bool, true, false, ◌||◌, List, ◌++◌, length, Option, Some, None, nat_le}
use Rattle.spec_numbers.specs.Fractions.{lowest}
use Rattle.spec_sorts.specs.Numerals.{number_after}
use Rattle.ratio128.specs.declared.ratio.Ratio.{Ratio}
use Rattle.ratio128.specs.Meant.{fraction}

-- as one whole number the digits are above 2^127 - 1, or more than 38 are after the point
abbrev pub are_wide : (whole places : List ℕ) → Bool
are_wide whole places = nat_le (2 ^ 127) (number_after 0 (whole ++ places)) || nat_le 39 (length places)

-- the number that they write, or none where they are too wide
abbrev pub IsNumber : Option Ratio → (whole places : List ℕ) → Type 0
IsNumber None whole places = are_wide whole places ≡ true
IsNumber (Some q) whole places = (are_wide whole places ≡ false)
    × (fraction q ≡ lowest (pos (number_after 0 (whole ++ places))) (10 ^ length places))
