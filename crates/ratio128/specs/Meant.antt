-- What the values of the code represent in definitions.
use Rattle.std.specs.Prelude.{◌≡◌, Bool, true, false, Option, Some, None, Result, Ok, Err}
use Rattle.spec_numbers.specs.Fractions.{Fraction}
use Rattle.spec_numbers.specs.Bounds.{Overflow}
use Rattle.ratio128.specs.declared.ratio.Ratio.{Ratio}
use Rattle.ratio128.specs.declared.wide.Wide.{Wide}

-- the fraction that a `Ratio` is
abbrev pub fraction : Ratio → Fraction
fraction a = record { num = a.num; den = a.den }

-- both fractions are whole numbers
abbrev pub AreWhole : Ratio → Ratio → Type 0
AreWhole a b = (a.den ≡ 1) × (b.den ≡ 1)

-- the overflow that a `Wide` is
abbrev pub overflow : Wide → Overflow
overflow w = record { op = w.op; left = fraction w.left; right = fraction w.right }

-- the result of an operation, or its overflow
abbrev pub outcome : Result Ratio Wide → Result Fraction Overflow
outcome (Ok a) = Ok (fraction a)
outcome (Err w) = Err (overflow w)

-- the fraction where the test holds, and none where it does not
abbrev pub IsNarrow : Option Ratio → Bool → Fraction → Type 0
IsNarrow None fits x = fits ≡ false
IsNarrow (Some a) fits x = (fits ≡ true) × (fraction a ≡ x)
