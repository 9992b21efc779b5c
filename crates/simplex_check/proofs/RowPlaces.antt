-- Rows by their numbers.
use Rattle.std.proofs.Common.{◌≡◌, ℕ, zero, suc, ◌<◌, ◌≤◌, Bool, true, false, List, [], ◌∷◌, ◌++◌, ◌+◌, map, take, length, refl, sym, ◌∙◌, ap, arith, cond, ◌==◌, ◌||◌, ◌&&◌, not}
use Rattle.std.proofs.lemmas.List.{map-append, take_more}
use Rattle.std.proofs.lemmas.Bool.Decides.{nat_tests}
use Rattle.spec_tableaux.specs.Rows.{Row, AreDistinct, coefficient_of, is_basic, row_of}
use Rattle.spec_tableaux.specs.Spaces.{Pair}
use Rattle.spec_tableaux.specs.Ranges.{Range, is_within}
use Rattle.spec_tableaux.specs.LeastVariable.{State, is_out}
use Rattle.spec_tableaux.specs.Numbers.{Number, numbers}
use Rattle.spec_tableaux.proofs.Steps.{same_eqb}
use Rattle.tableau.specs.Views.{row_at, no_row}
use Rattle.spec_tableaux.specs.Points.{deltas}
use Rattle.spec_tableaux.specs.BoundsOverflows.{coefficient_in}
use Rattle.tableau.proofs.Exchanging.{basic_at}

pub basic_of : (rs : List (Row Number)) (k b : ℕ) → k < length rs → b ≡ (row_at rs k).basic → is_basic b rs ≡ true
basic_of rs k b h e = ap (λ z. is_basic z rs) e ∙ basic_at rs k h

-- and its row is this one
row_of_at : (rs : List (Row Number)) (k : ℕ) → k < length rs → AreDistinct rs → row_of (row_at rs k).basic rs ≡ row_at rs k
row_of_at [] k h d = absurd (omega arith)
row_of_at (r ∷ rs) zero h d = ap (λ q. cond q r (row_of r.basic rs)) (same_eqb r.basic)
row_of_at (r ∷ rs) (suc k) h d = by (r.basic == (row_at rs k).basic) refl (row_of_at rs k (omega arith) d.1)
  where
    by : (q : Bool) → (r.basic == (row_at rs k).basic) ≡ q → row_of (row_at rs k).basic rs ≡ row_at rs k → row_of (row_at rs k).basic (r ∷ rs) ≡ row_at rs k
    by true e i = absurd (
        let s : r.basic ≡ (row_at rs k).basic = grind (arith, nat_tests) in
        let m : is_basic r.basic rs ≡ true = ap (λ z. is_basic z rs) s ∙ basic_at rs k (omega arith) in
        let n : is_basic r.basic rs ≡ false = d.0 in
        cc)
    by false e i = ap (λ q. cond q r (row_of (row_at rs k).basic rs)) e ∙ i

-- the coefficient in a row is that in the row of its variable
pub coefficient_at : (rs : List (Row Number)) (k b x : ℕ) (c : Number) → AreDistinct rs → k < length rs → b ≡ (row_at rs k).basic → c ≡ coefficient_of numbers x (row_at rs k).entries → c ≡ coefficient_in rs b x
coefficient_at rs k b x c d h e g = g ∙ ap (λ (r : Row Number). coefficient_of numbers x r.entries) (sym (ap (λ z. row_of z rs) e ∙ row_of_at rs k h d))

-- The row of a basic variable has a number.
pub record HasPlace (rs : List (Row Number)) (y : ℕ) : Type 0 where
  pub number : ℕ
  pub within : number < length rs
  pub basic : (row_at rs number).basic ≡ y
  pub row : row_of y rs ≡ row_at rs number

pub has_place : (rs : List (Row Number)) (y : ℕ) → is_basic y rs ≡ true → HasPlace rs y
has_place [] y h = absurd (cc)
has_place (r ∷ rs) y h = by (λ k. has_place rs y k) (r.basic == y) refl
  where
    by : (is_basic y rs ≡ true → HasPlace rs y) → (q : Bool) → (r.basic == y) ≡ q → HasPlace (r ∷ rs) y
    by f true e = record { number = 0; within = omega arith; basic = grind (arith, nat_tests); row = ap (λ q. cond q r (row_of y rs)) e }
    by f false e =
        let p : HasPlace rs y = f (ap (λ q. q || is_basic y rs) (sym e) ∙ h) in
        let w : p.number < length rs = p.within in
        record { number = suc p.number; within = omega arith; basic = p.basic; row = ap (λ q. cond q r (row_of y rs)) e ∙ p.row }

-- where none of the variables is out of its bounds, none is
pub none_out : (ranges : ℕ → Range (Pair Number)) (t : State Number (Pair Number)) (n y : ℕ) → n ≤ y → ((b : ℕ) → is_basic b t.rows ≡ true → b < n)
    → ((k : ℕ) → k < y → is_out deltas ranges t k ≡ false) → (k : ℕ) → is_out deltas ranges t k ≡ false
none_out ranges t n y e b h k = by (is_basic k t.rows) refl
  where
    by : (q : Bool) → is_basic k t.rows ≡ q → is_out deltas ranges t k ≡ false
    by true m = h k (let l : k < n = b k m in omega arith)
    by false m = ap (λ q. q && not (is_within deltas ranges t.point k)) m

-- the basic variables of the first rows, and of one more
pub basics_more : (rs : List (Row Number)) (k : ℕ) (old new : List ℕ) (b : ℕ) → k < length rs → old ≡ map (λ (r : Row Number). r.basic) (take k rs) → new ≡ old ++ b ∷ [] → b ≡ (row_at rs k).basic
    → new ≡ map (λ (r : Row Number). r.basic) (take (k + 1) rs)
basics_more rs k old new b h o n e =
    n ∙ ap (λ z. z ++ b ∷ []) o ∙ ap (λ z. map (λ (r : Row Number). r.basic) (take k rs) ++ z ∷ []) e ∙ sym (map-append (λ (r : Row Number). r.basic) (take k rs) (row_at rs k ∷ []))
    ∙ ap (map (λ (r : Row Number). r.basic)) (sym (take_more rs k no_row h))

pub basics_all : (rs : List (Row Number)) (k : ℕ) → length rs ≤ k → take k rs ≡ rs
basics_all [] zero h = refl
basics_all [] (suc k) h = refl
basics_all (r ∷ rs) zero h = absurd (omega arith)
basics_all (r ∷ rs) (suc k) h = ap (λ z. r ∷ z) (basics_all rs k (omega arith))
