-- Rows that are grounded have a solution for all values of terms.
use Rattle.std.proofs.Common.{◌≡◌, ℕ, suc, ◌<◌, Bool, true, false, cond, ◌==◌, List, [], ◌∷◌, Option, Some, None, refl, sym, ◌∙◌, ap, arith}
use Rattle.std.proofs.lemmas.Bool.Decides.{nat_tests}
use Rattle.std.proofs.lemmas.Option.{none-some}
use Rattle.spec_sorts.specs.Terms.{Term}
use Rattle.spec_tableaux.specs.Spaces.{as_space}
use Rattle.spec_tableaux.specs.Rows.{Row, Solves, sum_of}
use Rattle.spec_tableaux.specs.Numbers.{Number, numbers}
use Rattle.spec_tableaux.proofs.Steps.{agreeing_sums, same_eqb}
use Rattle.term_core.specs.declared.ids.TermId.{TermId}
use Rattle.term_core.specs.Tables.{TableView, term_at}
use Rattle.simplex_atoms.specs.Owners.{owner_at, AreOwned}
use Rattle.simplex_atoms.specs.Grounded.{AreGrounded}

-- the values with x for one variable
abbrev set : ℕ → Number → (ℕ → Number) → ℕ → Number
set b x v y = cond (y == b) x (v y)

-- the values with those of basic variables by their rows, one after the other
abbrev following : List (Row Number) → (ℕ → Number) → ℕ → Number
following [] v = v
following (r ∷ rs) v = following rs (set r.basic (sum_of (as_space numbers) v r.entries) v)

set_at : (b : ℕ) (x : Number) (v : ℕ → Number) → set b x v b ≡ x
set_at b x v = ap (λ q. cond q x (v b)) (same_eqb b)

set_other : (b : ℕ) (x : Number) (v : ℕ → Number) (y : ℕ) → (y == b) ≡ false → set b x v y ≡ v y
set_other b x v y e = ap (λ q. cond q x (v y)) e

apart : (y b : ℕ) → y < b → (y == b) ≡ false
apart y b h = grind (arith, nat_tests)

-- what is below the basic variables stays
below_stays : (owners : List (Option TermId)) (from : ℕ) (rs : List (Row Number)) (to : ℕ) (v : ℕ → Number) → AreGrounded owners from rs to → (y : ℕ) → y < from → following rs v y ≡ v y
below_stays owners from [] to v g y h = refl
below_stays owners from (r ∷ rs) to v g y h =
    let first : y < r.basic = omega (arith, h, g.0) in
    below_stays owners (suc r.basic) rs to (set r.basic (sum_of (as_space numbers) v r.entries) v) g.3 y (omega (arith, first)) ∙ set_other r.basic (sum_of (as_space numbers) v r.entries) v y (apart y r.basic first)

-- a term's variable is not that of a row
not_basic : (owners : List (Option TermId)) (b y : ℕ) (id : TermId) → owner_at owners b ≡ None → owner_at owners y ≡ Some id → (y == b) ≡ false
not_basic owners b y id n o = by (y == b) refl
  where
    by : (q : Bool) → (y == b) ≡ q → q ≡ false
    by false e = refl
    by true e = let same : y ≡ b = grind (arith, nat_tests) in absurd (none-some id (sym n ∙ ap (owner_at owners) (sym same) ∙ o))

owned_stays : (owners : List (Option TermId)) (from : ℕ) (rs : List (Row Number)) (to : ℕ) (v : ℕ → Number) → AreGrounded owners from rs to → (y : ℕ) (id : TermId) → owner_at owners y ≡ Some id
    → following rs v y ≡ v y
owned_stays owners from [] to v g y id o = refl
owned_stays owners from (r ∷ rs) to v g y id o =
    owned_stays owners (suc r.basic) rs to (set r.basic (sum_of (as_space numbers) v r.entries) v) g.3 y id o ∙ set_other r.basic (sum_of (as_space numbers) v r.entries) v y (not_basic owners r.basic y id g.1 o)

following_solves : (owners : List (Option TermId)) (from : ℕ) (rs : List (Row Number)) (to : ℕ) (v : ℕ → Number) → AreGrounded owners from rs to → Solves (as_space numbers) (following rs v) rs
following_solves owners from [] to v g = tt
following_solves owners from (r ∷ rs) to v g =
    let x = sum_of (as_space numbers) v r.entries in
    let w = set r.basic x v in
    let basic : following rs w r.basic ≡ x = below_stays owners (suc r.basic) rs to w g.3 r.basic (omega arith) ∙ set_at r.basic x v in
    let sums : sum_of (as_space numbers) (following rs w) r.entries ≡ x = agreeing_sums (as_space numbers) (λ y. y < r.basic) (following rs w) v r.entries g.2
    (λ y h. below_stays owners (suc r.basic) rs to w g.3 y (omega (arith, h)) ∙ set_other r.basic x v y (apart y r.basic h)) in
    (record { is = basic ∙ sym sums }, following_solves owners (suc r.basic) rs to w g.3)

-- the value of a term, 0 where there is none
abbrev value_for : TableView → (Term → Number) → Option TermId → Number
value_for t n None = numbers.zero
value_for t n (Some id) = n (term_at t id)

-- Values of variables by those of terms.
pub record Solution (t : TableView) (owners : List (Option TermId)) (listed : List (Row Number)) (n : Term → Number) : Type 0 where
  pub values : ℕ → Number
  pub owned : AreOwned t owners n values
  pub solves : Solves (as_space numbers) values listed

pub solution : (t : TableView) (owners : List (Option TermId)) (from : ℕ) (listed : List (Row Number)) (to : ℕ) → AreGrounded owners from listed to → (n : Term → Number) → Solution t owners listed n
solution t owners from listed to g n =
    let v : ℕ → Number = λ y. value_for t n (owner_at owners y) in
    record {
      values = following listed v;
      owned = λ y id o. owned_stays owners from listed to v g y id o ∙ ap (value_for t n) o;
      solves = following_solves owners from listed to v g;
    }
