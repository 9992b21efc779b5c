-- Rows, exchanges and steps worked out, with fractions for numbers and values. The variables are x0, x1, x2 and so on.
use Rattle.std.specs.Prelude.{◌≡◌, ℕ, zero, suc, ◌<◌, pos, negsuc, true, false, not, ◌&&◌, ◌||◌, ◌==◌, List, [], ◌∷◌}
use Rattle.std.specs.Prelude.{cond, Some, None, refl, ⊤}
use Rattle.std.proofs.Common.{arith, ap}
use Rattle.std.proofs.lemmas.Bool.Decides.{nat_tests}
use Rattle.spec_numbers.specs.Fractions.{Fraction, gcd, whole, zero_fraction, one_fraction, plus, times, opposite}
use Rattle.spec_numbers.specs.Fractions.{inverse}
use Rattle.spec_tableaux.specs.Spaces.{as_space, pairs}
use Rattle.spec_tableaux.specs.Rows.{Entry, Row, sum_of, put, exchanged, with_row}
use Rattle.spec_tableaux.specs.SolvedForms.{IsNonbasic}
use Rattle.spec_tableaux.specs.Ranges.{Range, is_crossed, is_within, moves_by}
use Rattle.spec_tableaux.specs.LeastVariable.{IsLeast, State, is_out, can_move, done, stuck, RuleSays, Exchanges}
use Rattle.spec_tableaux.specs.LeastVariable.{MakesPivots}
use Rattle.spec_tableaux.specs.Numbers.{fractions}

-- what a proof unfolds to compute with fractions that are written out
unfoldable pub fractions_on_literals : ⊤
unfolding fractions plus times opposite inverse gcd
fractions_on_literals = tt

-- an entry of a variable with a whole number
abbrev pub entry : ℕ → Fraction → Entry Fraction
entry x c = record { variable = x; coefficient = c }

-- a row
abbrev pub row : ℕ → List (Entry Fraction) → Row Fraction
row b es = record { basic = b; entries = es }

-- 1 over 2
abbrev pub half : Fraction
half = record { num = pos 1; den = 2 }

-- its opposite
abbrev pub minus_half : Fraction
minus_half = record { num = negsuc 0; den = 2 }

-- 3 over 2
abbrev pub three_halves : Fraction
three_halves = record { num = pos 3; den = 2 }

-- -1
abbrev pub minus_one : Fraction
minus_one = whole (negsuc 0)

-- two rows: x2 = x0 + 2 x1, and x3 = x0 - x1
abbrev pub two_rows : List (Row Fraction)
two_rows = row 2 (entry 0 one_fraction ∷ entry 1 (whole (pos 2)) ∷ []) ∷ row 3 (entry 0 one_fraction ∷ entry 1 minus_one
    ∷ []) ∷ []

-- a sum of entries where x0 is 5 and each other variable is 7
abbrev pub values : ℕ → Fraction
values zero = whole (pos 5)
values (suc y) = whole (pos 7)

pub sum : sum_of (as_space fractions) values (entry 0 one_fraction ∷ entry 1 (whole (pos 2)) ∷ []) ≡ whole (pos 19)
unfolding fractions_on_literals
sum = refl

-- an entry in its place
pub put_between : put fractions 1 half (entry 0 one_fraction ∷ entry 2 one_fraction ∷ []) ≡ entry 0 one_fraction
    ∷ entry 1 half ∷ entry 2 one_fraction ∷ []
unfolding fractions_on_literals
put_between = refl

-- more of one that is there
pub put_more : put fractions 1 half (entry 1 half ∷ []) ≡ entry 1 one_fraction ∷ []
unfolding fractions_on_literals
put_more = refl

-- one that comes to 0
pub put_away : put fractions 1 minus_half (entry 0 one_fraction ∷ entry 1 half ∷ []) ≡ entry 0 one_fraction ∷ []
unfolding fractions_on_literals
put_away = refl

-- x2 leaves and x1 enters: x1 = -1/2 x0 + 1/2 x2, and x3 = 3/2 x0 - 1/2 x2
pub exchange_of_two : exchanged fractions 2 1 two_rows
    ≡ row 1 (entry 0 minus_half ∷ entry 2 half ∷ []) ∷ row 3 (entry 0 three_halves ∷ entry 2 minus_half ∷ []) ∷ []
unfolding fractions_on_literals
exchange_of_two = refl

-- and the exchange back
pub exchange_back : exchanged fractions 1 2 (exchanged fractions 2 1 two_rows) ≡ two_rows
unfolding fractions_on_literals
exchange_back = refl

-- a row more, x4 = x2 + x3, in which basic variables are replaced: 2 x0 + x1
pub row_more : with_row fractions two_rows 4 (entry 2 one_fraction ∷ entry 3 one_fraction ∷ [])
    ≡ row 2 (entry 0 one_fraction ∷ entry 1 (whole (pos 2)) ∷ []) ∷ row 3 (entry 0 one_fraction ∷ entry 1 minus_one
    ∷ []) ∷ row 4 (entry 0 (whole (pos 2)) ∷ entry 1 one_fraction ∷ []) ∷ []
unfolding fractions_on_literals
row_more = refl

-- a tilt below 0 makes a pair less
pub tilt_below : (pairs fractions).less (record { base = one_fraction; tilt = minus_one })
    (record { base = one_fraction; tilt = zero_fraction }) ≡ true
unfolding fractions_on_literals
tilt_below = refl

-- a greater base makes it greater, whatever the tilts are
pub base_first : (pairs fractions).less (record { base = one_fraction; tilt = minus_one }) (record {
  base = half;
  tilt = one_fraction;
}) ≡ false
unfolding fractions_on_literals
base_first = refl

-- a range without an upper bound
abbrev pub at_least : Fraction → Range Fraction
at_least l = record { lower = Some l; upper = None }

-- a range without a lower bound
abbrev pub at_most : Fraction → Range Fraction
at_most u = record { lower = None; upper = Some u }

-- a system of one row, x2 = x0 + x1, with x0 at most 1, x1 at most 3, and x2 at least 2
abbrev pub ranges : ℕ → Range Fraction
ranges zero = at_most one_fraction
ranges (suc zero) = at_most (whole (pos 3))
ranges (suc (suc zero)) = at_least (whole (pos 2))
ranges (suc (suc (suc y))) = record { lower = None; upper = None }

-- the point at which x0, x1 and x2 have these values, and the others 0
abbrev pub point : Fraction → Fraction → Fraction → ℕ → Fraction
point p q r zero = p
point p q r (suc zero) = q
point p q r (suc (suc zero)) = r
point p q r (suc (suc (suc y))) = zero_fraction

-- at the start each variable is 0, so that x2 is too small
abbrev pub start : State Fraction Fraction
start = record {
  rows = row 2 (entry 0 one_fraction ∷ entry 1 one_fraction ∷ []) ∷ [];
  point = point zero_fraction zero_fraction zero_fraction;
}

-- x0 entered for x2, which is 2, and is too great
abbrev pub middle : State Fraction Fraction
middle = record {
  rows = row 0 (entry 1 minus_one ∷ entry 2 one_fraction ∷ []) ∷ [];
  point = point (whole (pos 2)) zero_fraction (whole (pos 2));
}

-- x1 entered for x0, which is 1
abbrev pub end : State Fraction Fraction
end = record {
  rows = row 1 (entry 0 minus_one ∷ entry 2 one_fraction ∷ []) ∷ [];
  point = point one_fraction one_fraction (whole (pos 2));
}

-- no bounds cross
nothing_crosses : (y : ℕ) → is_crossed (as_space fractions) ranges y ≡ false
unfolding fractions_on_literals
nothing_crosses zero = refl
nothing_crosses (suc zero) = refl
nothing_crosses (suc (suc zero)) = refl
nothing_crosses (suc (suc (suc y))) = refl

-- at the start x2 is out
start_out : IsLeast (is_out (as_space fractions) ranges start) 2
unfolding fractions_on_literals
start_out = record { holds = refl; least = others }
  where
    others : (y : ℕ) → y < 2 → is_out (as_space fractions) ranges start y ≡ false
    others zero h = refl
    others (suc zero) h = refl
    others (suc (suc y)) h = absurd (omega arith)

-- of the variables that can move x0 is the least
start_moves : IsLeast (can_move (as_space fractions) ranges start 2) 0
unfolding fractions_on_literals
start_moves = record { holds = refl; least = λ y h. absurd (omega arith) }

-- the step
first_step : Exchanges (as_space fractions) ranges start 2 0 middle
unfolding fractions_on_literals
first_step = record { rows = refl; solves = (record { is = refl }, tt); bound = refl; others = others }
  where
    others : (y : ℕ) → IsNonbasic start.rows y → (y == 0) ≡ false → middle.point y ≡ start.point y
    others zero n h = absurd (cc)
    others (suc zero) n h = refl
    others (suc (suc zero)) n h = absurd (cc)
    others (suc (suc (suc y))) n h = refl

-- then x0 is out
middle_out : IsLeast (is_out (as_space fractions) ranges middle) 0
unfolding fractions_on_literals
middle_out = record { holds = refl; least = λ y h. absurd (omega arith) }

-- x1 can move
middle_moves : IsLeast (can_move (as_space fractions) ranges middle 0) 1
unfolding fractions_on_literals
middle_moves = record { holds = refl; least = others }
  where
    others : (y : ℕ) → y < 1 → can_move (as_space fractions) ranges middle 0 y ≡ false
    others zero h = refl
    others (suc y) h = absurd (omega arith)

-- the step
second_step : Exchanges (as_space fractions) ranges middle 0 1 end
unfolding fractions_on_literals
second_step = record { rows = refl; solves = (record { is = refl }, tt); bound = refl; others = others }
  where
    others : (y : ℕ) → IsNonbasic middle.rows y → (y == 1) ≡ false → end.point y ≡ middle.point y
    others zero n h = absurd (cc)
    others (suc zero) n h = absurd (cc)
    others (suc (suc zero)) n h = refl
    others (suc (suc (suc y))) n h = refl

-- the rule says two exchanges from the start, x0 for x2 and x1 for x0
pub two_exchanges : MakesPivots (as_space fractions) ranges start ((2, 0) ∷ (0, 1) ∷ []) end
two_exchanges = (
  (nothing_crosses, start_out, start_moves),
  (middle, first_step, ((nothing_crosses, middle_out, middle_moves), (end, second_step, refl))),
)

-- at the end it is done
pub end_is_done : RuleSays (as_space fractions) ranges end done
unfolding fractions_on_literals
end_is_done = (nothing_crosses, others)
  where
    beyond : (y : ℕ) → (1 == suc (suc (suc y))) ≡ false
    beyond y = grind (arith, nat_tests)

    others : (y : ℕ) → is_out (as_space fractions) ranges end y ≡ false
    others zero = refl
    others (suc zero) = refl
    others (suc (suc zero)) = refl
    others (suc (suc (suc y))) = ap (λ q. (q || false)
        && not (is_within (as_space fractions) ranges end.point (suc (suc (suc y))))) (beyond y)

-- with x1 at most 0 instead
abbrev pub tight_ranges : ℕ → Range Fraction
tight_ranges zero = at_most one_fraction
tight_ranges (suc zero) = at_most zero_fraction
tight_ranges (suc (suc zero)) = at_least (whole (pos 2))
tight_ranges (suc (suc (suc y))) = record { lower = None; upper = None }

-- the rule is stuck where both variables are at their bounds and x2 is too small
abbrev pub tight : State Fraction Fraction
tight = record {
  rows = row 2 (entry 0 one_fraction ∷ entry 1 one_fraction ∷ []) ∷ [];
  point = point one_fraction zero_fraction one_fraction;
}

pub tight_is_stuck : RuleSays (as_space fractions) tight_ranges tight (stuck 2)
unfolding fractions_on_literals
tight_is_stuck = (crossings, record { holds = refl; least = least }, stopped)
  where
    crossings : (y : ℕ) → is_crossed (as_space fractions) tight_ranges y ≡ false
    crossings zero = refl
    crossings (suc zero) = refl
    crossings (suc (suc zero)) = refl
    crossings (suc (suc (suc y))) = refl

    least : (y : ℕ) → y < 2 → is_out (as_space fractions) tight_ranges tight y ≡ false
    least zero h = refl
    least (suc zero) h = refl
    least (suc (suc y)) h = absurd (omega arith)

    not_first : (y : ℕ) → (0 == suc (suc y)) ≡ false
    not_first y = grind (arith, nat_tests)

    not_second : (y : ℕ) → (1 == suc (suc y)) ≡ false
    not_second y = grind (arith, nat_tests)

    stopped : (x : ℕ) → can_move (as_space fractions) tight_ranges tight 2 x ≡ false
    stopped zero = refl
    stopped (suc zero) = refl
    stopped (suc (suc y)) = λ i. moves_by (as_space fractions) (tight_ranges (suc (suc y))) (tight.point (suc (suc y)))
        true (cond (not_first y i) one_fraction (cond (not_second y i) one_fraction zero_fraction))
