-- Bounds of variables, and points that keep them.
use Rattle.std.specs.Prelude.{◌≡◌, ℕ, Bool, true, false, not, ◌||◌, List, [], ◌∷◌, cond, Option, Some, None}
use Rattle.spec_tableaux.specs.Fields.{is_positive}
use Rattle.spec_tableaux.specs.Spaces.{Space}
use Rattle.spec_tableaux.specs.Rows.{Entry, Row, Solves}

-- the lower and the upper bound of a variable, each where it has one
pub record Range (V : Type 0) : Type 0 where
  pub lower : Option V
  pub upper : Option V

-- x is below a lower bound
abbrev pub below : {A V : Type 0} → Space A V → V → Option V → Bool
below s x None = false
below s x (Some l) = s.less x l

-- x is above an upper bound
abbrev pub above : {A V : Type 0} → Space A V → V → Option V → Bool
above s x None = false
above s x (Some u) = s.less u x

-- x can rise within an upper bound
abbrev pub can_rise : {A V : Type 0} → Space A V → V → Option V → Bool
can_rise s x None = true
can_rise s x (Some u) = s.less x u

-- x can fall within a lower bound
abbrev pub can_fall : {A V : Type 0} → Space A V → V → Option V → Bool
can_fall s x None = true
can_fall s x (Some l) = s.less l x

-- a lower bound is above an upper one
abbrev pub crosses : {A V : Type 0} → Space A V → Option V → Option V → Bool
crosses s None upper = false
crosses s (Some l) upper = above s l upper

-- the lower and the upper bound of y cross
abbrev pub is_crossed : {A V : Type 0} → Space A V → (ℕ → Range V) → ℕ → Bool
is_crossed s ranges y = crosses s (ranges y).lower (ranges y).upper

-- the values v keep the bounds of y
abbrev pub is_within : {A V : Type 0} → Space A V → (ℕ → Range V) → (ℕ → V) → ℕ → Bool
is_within s ranges v y = not (below s (v y) (ranges y).lower || above s (v y) (ranges y).upper)

-- A point of rows and ranges: values that solve the rows and keep each bound.
pub record Meets {A V : Type 0} (s : Space A V) (rs : List (Row A)) (ranges : ℕ → Range V) (v : ℕ → V) : Type 0 where
  pub solves : Solves s v rs
  pub within : (y : ℕ) → is_within s ranges v y ≡ true

-- a variable of the value x, which a sum has with the coefficient c, can move so that the sum rises, or falls where up
-- is false
abbrev pub moves_by : {A V : Type 0} → Space A V → Range V → V → Bool → A → Bool
moves_by s range x up c =
    cond (s.numbers.is_zero c) false
    (cond (is_positive s.numbers c)
    (cond up (can_rise s x range.upper) (can_fall s x range.lower))
    (cond up (can_fall s x range.lower) (can_rise s x range.upper)))

-- the bound that keeps a variable with the coefficient c from moving so that the sum rises, or falls where up is false
abbrev pub stopping_bound : {A V : Type 0} → Space A V → Range V → Bool → A → Option V
stopping_bound s range up c = cond (is_positive s.numbers c) (cond up range.upper range.lower)
    (cond up range.lower range.upper)

-- the variable of each entry is at its stopping bound
abbrev pub AreStopped : {A V : Type 0} → Space A V → (ℕ → Range V) → (ℕ → V) → Bool → List (Entry A) → Type 0
AreStopped s ranges v up [] = Unit {0}
AreStopped s ranges v up (e ∷ es) = (stopping_bound s (ranges e.variable) up e.coefficient ≡ Some (v e.variable))
    × AreStopped s ranges v up es

-- the bound, or d where there is none
abbrev pub bound_or : {V : Type 0} → V → Option V → V
bound_or d None = d
bound_or d (Some x) = x

-- the value x moved to the bound of its range that it violates
abbrev pub value_in_range : {A V : Type 0} → Space A V → Range V → V → V
value_in_range s range x =
    cond (below s x range.lower) (bound_or x range.lower) (cond (above s x range.upper) (bound_or x range.upper) x)
