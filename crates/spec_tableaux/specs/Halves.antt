-- Numbers in the place of the infinitesimal, and the operations by which they can leave the bound on fractions.
-- Source: Dutertre and de Moura, A Fast Linear-Arithmetic Solver for DPLL(T), CAV 2006.
use Rattle.std.specs.Prelude.{◌≡◌, ℕ, Bool, true, List, Option, Some, None, ◌⊎◌, Contains}
use Rattle.spec_numbers.specs.Bounds.{Overflow, subtracted, divided}
use Rattle.spec_tableaux.specs.Spaces.{Pair, as_space}
use Rattle.spec_tableaux.specs.Ranges.{Range}
use Rattle.spec_tableaux.specs.Numbers.{Number, numbers}
use Rattle.spec_tableaux.specs.CheckOverflows.{Overflows}
use Rattle.spec_tableaux.specs.Points.{deltas, Ranges}

-- a number is less than another
abbrev pub is_less : Number → Number → Bool
is_less = (as_space numbers).less

-- the number that a pair is where the infinitesimal is e
abbrev pub at_number : Number → Pair Number → Number
at_number e x = numbers.plus x.base (numbers.times x.tilt e)

-- how much the base of y is above that of x
abbrev pub gap : Pair Number → Pair Number → Number
gap x y = numbers.plus y.base (numbers.opposite x.base)

-- how much the tilt of x is above that of y
abbrev pub steepness : Pair Number → Pair Number → Number
steepness x y = numbers.plus x.tilt (numbers.opposite y.tilt)

-- the tilt of x is above that of y
abbrev pub IsSteeper : Pair Number → Pair Number → Type 0
IsSteeper x y = is_less y.tilt x.tilt ≡ true

-- the number at which x, of the greater tilt, comes to y
abbrev pub meeting : Pair Number → Pair Number → Number
meeting x y = numbers.times (gap x y) (numbers.inverse (steepness x y))

-- 2
abbrev pub two : Number
two = numbers.plus numbers.one numbers.one

-- half of that number
abbrev pub halfway : Pair Number → Pair Number → Number
halfway x y = numbers.times (meeting x y) (numbers.inverse two)

-- Half of the number at which x, of the greater tilt, comes to y leads to the overflow o.
pub data OverflowsHalf (x y : Pair Number) (o : Overflow) : Type 0 where
  -- the base of y minus that of x
  bases : Overflows subtracted y.base x.base o → OverflowsHalf x y o
  -- the tilt of x minus that of y
  tilts : Overflows subtracted x.tilt y.tilt o → OverflowsHalf x y o
  -- the first difference over the second
  quotient : Overflows divided (gap x y) (steepness x y) o → OverflowsHalf x y o
  -- this quotient over 2
  half : Overflows divided (meeting x y) two o → OverflowsHalf x y o

-- x has the greater tilt, and half of the number at which it comes to y leads to the overflow o
abbrev pub OverflowsOrder : Pair Number → Pair Number → Overflow → Type 0
OverflowsOrder x y o = IsSteeper x y × OverflowsHalf x y o

-- the same by a lower bound of the value x
abbrev pub OverflowsLower : Option (Pair Number) → Pair Number → Overflow → Type 0
OverflowsLower None x o = ⊥
OverflowsLower (Some b) x o = OverflowsOrder b x o

-- or by an upper bound of it
abbrev pub OverflowsUpper : Option (Pair Number) → Pair Number → Overflow → Type 0
OverflowsUpper None x o = ⊥
OverflowsUpper (Some b) x o = OverflowsOrder x b o

-- or by one of these of its range
abbrev pub OverflowsRange : Range (Pair Number) → Pair Number → Overflow → Type 0
OverflowsRange r x o = OverflowsLower r.lower x o ⊎ OverflowsUpper r.upper x o

-- Two of the values xs come to the overflow o: the lesser has the greater tilt.
pub record OverflowsApart (xs : List (Pair Number)) (o : Overflow) : Type 0 where
  pub lesser : Pair Number
  pub lesser_in : Contains xs lesser
  pub greater : Pair Number
  pub greater_in : Contains xs greater
  pub less : deltas.less lesser greater ≡ true
  pub may_overflow : OverflowsOrder lesser greater o

-- A number for the values v, the bounds of all variables, and values that are kept apart comes to the overflow o.
pub data OverflowsNumber (ranges : Ranges) (v : ℕ → Pair Number) (apart : List (Pair Number))
    (o : Overflow) : Type 0 where
  -- by the bounds of a variable
  bounds : (y : ℕ) → OverflowsRange (ranges y) (v y) o → OverflowsNumber ranges v apart o
  -- by two of the values that are kept apart
  values : OverflowsApart apart o → OverflowsNumber ranges v apart o
