-- What literals say of the variables on which their atoms are placed.
use Rattle.std.specs.Prelude.{◌≡◌, ℕ, Bool, true, false, not, List, [], ◌∷◌, ◌++◌, map, All, Option, Some, None}
use Rattle.spec_numbers.specs.Fractions.{Fraction}
use Rattle.spec_arithmetic.specs.Signs.{size}
use Rattle.spec_tableaux.specs.Fields.{is_positive}
use Rattle.spec_tableaux.specs.Spaces.{Pair}
use Rattle.spec_tableaux.specs.Numbers.{Number, numbers}
use Rattle.spec_tableaux.specs.Ranges.{below as is_below, above as is_above}
use Rattle.spec_simplex.specs.Constraints.{Relation, below, at_most, equals, at_least, above}
use Rattle.term_core.specs.declared.ids.Lit.{Lit}
use Rattle.tableau.specs.Numbers.{number_of}
use Rattle.simplex_bounds.specs.Deltas.{pair_of}
use Rattle.spec_tableaux.specs.Points.{deltas}
use Rattle.simplex_bounds.specs.declared.bounds.Bound.{Bound}
use Rattle.simplex_bounds.specs.declared.bounds.Side.{Side}
use Rattle.simplex_bounds.specs.declared.bounds.Side.TheVariants.{Lower, Upper}
use Rattle.simplex_atoms.specs.declared.slack.Slack.{Slack}
use Rattle.simplex_atoms.specs.Slacks.{relation_by}

-- A bound, with its value as a pair of numbers.
pub record Limit : Type 0 where
  -- the variable
  pub variable : ℕ
  -- the side
  pub side : Side
  -- the least value, or the greatest one
  pub value : Pair Number
  -- the literal that states it
  pub literal : Lit

-- what a bound of the code means
abbrev pub limit_of : Bound → Limit
limit_of b = record { variable = b.variable; side = b.side; value = pair_of b.value; literal = b.literal }

-- bounds, where there are any
abbrev pub one_of : Option Bound → List Bound
one_of None = []
one_of (Some b) = b ∷ []

-- the limits that up to two bounds mean
abbrev pub limits_meant : Option Bound × Option Bound → List Limit
limits_meant p = map limit_of (one_of p.0 ++ one_of p.1)

-- the side on which a variable is bounded where its multiple is at most a number, by whether the factor is above 0
abbrev pub side_by : Bool → Side
side_by true = Upper
side_by false = Lower

-- by how many infinitesimals a bound is off the number from which it keeps a variable, which it may reach or not
abbrev pub tilt_by : Side → Bool → Number
tilt_by Lower true = numbers.one
tilt_by Upper true = numbers.opposite numbers.one
tilt_by side false = numbers.zero

-- the bound of a place on a side, which the variable may not reach where it is strict
abbrev pub limit_on : Slack → Lit → Side → Bool → Limit
limit_on slack l side strict = record {
  variable = slack.variable;
  side = side;
  value = record { base = number_of slack.bound; tilt = tilt_by side strict };
  literal = l;
}

-- the bounds of the variable where the form compares so with 0, by whether the factor is above 0
abbrev pub limits_where : Option Relation → Bool → Slack → Lit → List Limit
limits_where (Some below) up slack l = limit_on slack l (side_by up) true ∷ []
limits_where (Some at_most) up slack l = limit_on slack l (side_by up) false ∷ []
limits_where (Some equals) up slack l = limit_on slack l Lower false ∷ limit_on slack l Upper false ∷ []
limits_where (Some at_least) up slack l = limit_on slack l (side_by (not up)) false ∷ []
limits_where (Some above) up slack l = limit_on slack l (side_by (not up)) true ∷ []
limits_where None up slack l = []

-- the bounds that a literal states of the variable on which its atom is placed
abbrev pub limits_by : Slack → Lit → List Limit
limits_by slack l =
    limits_where (relation_by slack.kind l.positive) (is_positive numbers (number_of slack.factor)) slack l

-- a value violates a bound on a side
abbrev pub violates : Side → Pair Number → Pair Number → Bool
violates Lower x b = is_below deltas x (Some b)
violates Upper x b = is_above deltas x (Some b)

-- values keep the bound
abbrev pub KeepsLimit : (ℕ → Pair Number) → Limit → Type 0
KeepsLimit v b = violates b.side (v b.variable) b.value ≡ false

-- values keep each of the bounds
abbrev pub AreLimitsKept : (ℕ → Pair Number) → List Limit → Type 0
AreLimitsKept v bs = All (KeepsLimit v) bs

-- a number with the sign of a side: an upper bound minus a value has the weight m, and a value minus a lower one
abbrev pub signed_by : Side → Number → Number
signed_by Upper m = m
signed_by Lower m = numbers.opposite m

-- the weight of a constraint whose form is a multiple of a variable, where the variable is to have the weight s: of an
-- equality s over the factor, of an order the size of this
abbrev pub weight_of : Relation → Slack → Number → Fraction
weight_of equals slack s = (numbers.times s (numbers.inverse (number_of slack.factor))).fraction
weight_of r slack s = size (numbers.times s (numbers.inverse (number_of slack.factor))).fraction

-- 0 itself does not compare so with 0
abbrev pub is_strict : Relation → Bool
is_strict below = true
is_strict above = true
is_strict r = false
