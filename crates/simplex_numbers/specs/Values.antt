-- Numbers in the place of the infinitesimal, and what pairs and ranges of them come to.
-- Source: Dutertre and de Moura, A Fast Linear-Arithmetic Solver for DPLL(T), CAV 2006.
use Rattle.std.specs.Prelude.{◌≡◌, ◌≢◌, ℕ, Bool, true, false, List, map, Option, Some, None, Contains}
use Rattle.delta_num.specs.declared.delta.Delta.{Delta}
use Rattle.spec_tableaux.specs.Fields.{is_positive}
use Rattle.spec_tableaux.specs.Spaces.{Pair, as_space}
use Rattle.spec_tableaux.specs.Ranges.{Range, is_within}
use Rattle.spec_tableaux.specs.Numbers.{Number, numbers}
use Rattle.simplex_bounds.specs.declared.bounds.Side.{Side}
use Rattle.simplex_bounds.specs.declared.bounds.Side.TheVariants.{Lower, Upper}
use Rattle.simplex_bounds.specs.Deltas.{pair_of}
use Rattle.spec_tableaux.specs.Points.{deltas, Ranges}
use Rattle.simplex_check.specs.Assignments.{AssignmentView}
use Rattle.spec_tableaux.specs.Halves.{is_less, at_number, IsSteeper, halfway}

-- d is above 0, and not greater than e
abbrev pub IsSmaller : Number → Number → Type 0
IsSmaller d e = (is_positive numbers d ≡ true) × (is_less e d ≡ false)

-- d is above none of these numbers
abbrev pub IsAboveNone : (Number → Type 0) → Number → Type 0
IsAboveNone N d = (h : Number) → N h → is_less h d ≡ false

-- a bound where the infinitesimal is e, if there is one
abbrev pub bound_at : Number → Option (Pair Number) → Option Number
bound_at e None = None
bound_at e (Some b) = Some (at_number e b)

-- a range where the infinitesimal is e
abbrev pub range_at : Number → Range (Pair Number) → Range Number
range_at e r = record { lower = bound_at e r.lower; upper = bound_at e r.upper }

-- where the infinitesimal is e, the values v keep the bounds of each variable
abbrev pub KeepsAt : Number → Ranges → (ℕ → Pair Number) → Type 0
KeepsAt e ranges v = (y : ℕ) → is_within (as_space numbers) (λ z. range_at e (ranges z)) (λ z. at_number e (v z)) y
    ≡ true

-- x is less than y where the infinitesimal is e, if it is less at all
abbrev pub StaysLess : Number → Pair Number → Pair Number → Type 0
StaysLess e x y = deltas.less x y ≡ true → is_less (at_number e x) (at_number e y) ≡ true

-- a value that is above a lower bound is so where the infinitesimal is e
abbrev pub StaysAbove : Number → Option (Pair Number) → Pair Number → Type 0
StaysAbove e None x = Unit {0}
StaysAbove e (Some b) x = StaysLess e b x

-- a value that is below an upper bound is so where the infinitesimal is e
abbrev pub StaysBelow : Number → Option (Pair Number) → Pair Number → Type 0
StaysBelow e None x = Unit {0}
StaysBelow e (Some b) x = StaysLess e x b

-- a value that is off a bound of its range is so where the infinitesimal is e
abbrev pub StaysOff : Number → Range (Pair Number) → Pair Number → Type 0
StaysOff e r x = StaysAbove e r.lower x × StaysBelow e r.upper x

-- the order of values of the code
abbrev pub by_value : Delta → Delta → Bool
by_value x y = deltas.less (pair_of x) (pair_of y)

-- d is not above half of the number at which x comes to y, where the tilt of x is above that of y
abbrev pub IsClear : Number → Pair Number → Pair Number → Type 0
IsClear d x y = IsSteeper x y → is_less (halfway x y) d ≡ false

-- no two of the values xs, if they differ, are one number where the infinitesimal is e
abbrev pub KeepsApart : Number → List (Pair Number) → Type 0
KeepsApart e xs = (x y : Pair Number) → Contains xs x → Contains xs y → x ≢ y → at_number e x ≢ at_number e y

-- a number as a pair without an infinitesimal part
abbrev pub flat : Number → Pair Number
flat q = record { base = q; tilt = numbers.zero }

-- the assignment with its values where the infinitesimal is e
abbrev pub assignment_at_number : Number → AssignmentView → AssignmentView
assignment_at_number e b = record { tableau = b.tableau; values = map (λ x. flat (at_number e x)) b.values }

-- the tilt of a bound on a side leads inward, or is 0
abbrev pub IsInward : Side → Number → Type 0
IsInward Lower t = is_less t numbers.zero ≡ false
IsInward Upper t = is_less numbers.zero t ≡ false
