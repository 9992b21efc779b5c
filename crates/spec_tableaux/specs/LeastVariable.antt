-- The least-variable rule, which says how to look for a point.
-- Source: Bland, New finite pivoting rules for the simplex method, 1977; Dutertre and de Moura, CAV 2006.
use Rattle.std.specs.Prelude.{◌≡◌, ℕ, ◌<◌, Bool, true, false, not, ◌&&◌, List, [], ◌∷◌, cond, ◌==◌}
use Rattle.spec_tableaux.specs.Spaces.{Space, space_difference}
use Rattle.spec_tableaux.specs.Rows.{Row, Solves, coefficient_of, row_of, is_basic, exchanged}
use Rattle.spec_tableaux.specs.SolvedForms.{IsNonbasic}
use Rattle.spec_tableaux.specs.Ranges.{Range, below, is_crossed, is_within, moves_by, bound_or, value_in_range}

-- The least number of which p holds.
pub record IsLeast (p : ℕ → Bool) (x : ℕ) : Type 0 where
  pub holds : p x ≡ true
  pub least : (y : ℕ) → y < x → p y ≡ false

-- the rows, and a value of each variable
pub record State (A V : Type 0) : Type 0 where
  pub rows : List (Row A)
  pub point : ℕ → V

-- y is basic and violates a bound
abbrev pub is_out : {A V : Type 0} → Space A V → (ℕ → Range V) → State A V → ℕ → Bool
is_out s ranges t y = is_basic y t.rows && not (is_within s ranges t.point y)

-- b is below its lower bound, so that it has to rise
abbrev pub goes_up : {A V : Type 0} → Space A V → (ℕ → Range V) → State A V → ℕ → Bool
goes_up s ranges t b = below s (t.point b) (ranges b).lower

-- the bound of a range to which a variable has to rise, or to fall where up is false
abbrev pub goal_of : {A V : Type 0} → Space A V → Range V → Bool → V
goal_of s range true = bound_or s.origin range.lower
goal_of s range false = bound_or s.origin range.upper

-- x can move so that b, by its row, comes nearer to the bound that it violates
abbrev pub can_move : {A V : Type 0} → Space A V → (ℕ → Range V) → State A V → ℕ → ℕ → Bool
can_move s ranges t b x = moves_by s (ranges x) (t.point x) (goes_up s ranges t b)
    (coefficient_of s.numbers x (row_of b t.rows).entries)

-- how far x has to move so that b, by its row, comes to the bound that it violates
abbrev pub distance : {A V : Type 0} → Space A V → (ℕ → Range V) → State A V → ℕ → ℕ → V
distance s ranges t b x =
    s.scale (s.numbers.inverse (coefficient_of s.numbers x (row_of b t.rows).entries))
    (space_difference s (goal_of s (ranges b) (goes_up s ranges t b)) (t.point b))

-- What the rule says at a state.
pub data Move : Type 0 where
  -- each bound is kept
  done : Move
  -- the bounds of a variable cross
  crossed : ℕ → Move
  -- a basic variable violates a bound, and no variable of its row can move
  stuck : ℕ → Move
  -- a basic variable leaves, and a nonbasic one enters
  exchange : ℕ → ℕ → Move

-- the rule says this move: the least variable whose bounds cross; else the least basic one that violates a bound, and
-- of those
-- that can move in its row the least
abbrev pub RuleSays : {A V : Type 0} → Space A V → (ℕ → Range V) → State A V → Move → Type 0
RuleSays s ranges t done = ((y : ℕ) → is_crossed s ranges y ≡ false) × ((y : ℕ) → is_out s ranges t y ≡ false)
RuleSays s ranges t (crossed y) = IsLeast (is_crossed s ranges) y
RuleSays s ranges t (stuck b) =
    ((y : ℕ) → is_crossed s ranges y ≡ false) × IsLeast (is_out s ranges t) b
    × ((x : ℕ) → can_move s ranges t b x ≡ false)
RuleSays s ranges t (exchange b x) =
    ((y : ℕ) → is_crossed s ranges y ≡ false) × IsLeast (is_out s ranges t) b × IsLeast (can_move s ranges t b) x

-- The step of an exchange: its point solves the exchanged rows, b is at the bound that it violated, and nonbasic
-- variables
-- other than x stay.
pub record Exchanges {A V : Type 0} (s : Space A V) (ranges : ℕ → Range V) (t : State A V) (b x : ℕ)
    (u : State A V) : Type 0 where
  pub rows : u.rows ≡ exchanged s.numbers b x t.rows
  pub solves : Solves s u.point u.rows
  pub bound : u.point b ≡ goal_of s (ranges b) (goes_up s ranges t b)
  pub others : (y : ℕ) → IsNonbasic t.rows y → (y == x) ≡ false → u.point y ≡ t.point y

-- the exchanges es, each a leaving and an entering variable, are what the rule says one after the other from t on, and
-- lead to u
abbrev pub MakesPivots : {A V : Type 0} → Space A V → (ℕ → Range V) → State A V → List (ℕ × ℕ) → State A V → Type 0
MakesPivots s ranges t [] u = t ≡ u
MakesPivots s ranges t (e ∷ es) u =
    RuleSays s ranges t (exchange e.0 e.1) × ((m : State _ _) × Exchanges s ranges t e.0 e.1 m
    × MakesPivots s ranges m es u)

-- The step before all exchanges: each nonbasic variable that violates a bound goes to it.
pub record UpdatesNonbasic {A V : Type 0} (s : Space A V) (ranges : ℕ → Range V) (t u : State A V) : Type 0 where
  pub rows : u.rows ≡ t.rows
  pub solves : Solves s u.point u.rows
  pub nonbasic : (y : ℕ) → IsNonbasic t.rows y → u.point y ≡ value_in_range s (ranges y) (t.point y)

-- The point of a state solves its rows, and nonbasic variables keep their bounds.
pub record IsNonbasicFeasible {A V : Type 0} (s : Space A V) (ranges : ℕ → Range V) (t : State A V) : Type 0 where
  pub solves : Solves s t.point t.rows
  pub nonbasic : (y : ℕ) → IsNonbasic t.rows y → is_within s ranges t.point y ≡ true

-- The values w are v with the nonbasic variable x greater by d, and basic variables following by their rows.
pub record Moves {A V : Type 0} (s : Space A V) (rs : List (Row A)) (x : ℕ) (d : V) (v w : ℕ → V) : Type 0 where
  pub basics : (b : ℕ) → is_basic b rs ≡ true
      → w b ≡ s.plus (v b) (s.scale (coefficient_of s.numbers x (row_of b rs).entries) d)
  pub entering : w x ≡ s.plus (v x) d
  pub others : (y : ℕ) → IsNonbasic rs y → (y == x) ≡ false → w y ≡ v y

-- the values v in which x is greater by d, and each basic variable by d times the coefficient of x in its row
abbrev pub moved : {A V : Type 0} → Space A V → List (Row A) → ℕ → V → (ℕ → V) → (ℕ → V)
moved s rs x d v y =
    cond (is_basic y rs) (s.plus (v y) (s.scale (coefficient_of s.numbers x (row_of y rs).entries) d))
    (cond (y == x) (s.plus (v y) d) (v y))

-- each variable that leaves or enters is below n
abbrev pub AreUnder : ℕ → List (ℕ × ℕ) → Type 0
AreUnder n [] = Unit {0}
AreUnder n (e ∷ es) = (e.0 < n) × (e.1 < n) × AreUnder n es
