-- The strongest bounds after one more.
use Rattle.std.proofs.Common.{◌≡◌, ℕ, ◌<◌, Bool, true, false, ◌&&◌, ◌==◌, cond, List, [], ◌∷◌, ◌++◌, length, Option, None, refl, sym, ◌∙◌, subst, slice_set, slice_index_or}
use Rattle.std.proofs.lemmas.Bool.{eqb-true, eqb-false}
use Rattle.std.proofs.lemmas.List.{get_or-set_same, get_or-set_other}
use Rattle.spec_tableaux.proofs.Steps.{same_eqb}
use Rattle.simplex_bounds.specs.declared.bounds.Bound.{Bound}
use Rattle.simplex_bounds.specs.declared.bounds.Side.{Side}
use Rattle.simplex_bounds.specs.declared.bounds.Side.TheVariants.{Lower, Upper}
use Rattle.simplex_bounds.specs.declared.limits.VariableLimits.{VariableLimits}
use Rattle.simplex_bounds.specs.Held.{same_side, is_of, stronger, strongest, strongest_after}
use Rattle.simplex_bounds.specs.Limits.{unlimited, limit_at, with_limit, tightened, limits_in}

pub strongest_more : (found : Option Bound) (side : Side) (y : ℕ) (bs : List Bound) (b : Bound) → strongest_after found side y (bs ++ b ∷ [])
    ≡ cond (is_of side y b) (stronger (strongest_after found side y bs) b) (strongest_after found side y bs)
strongest_more found side y [] b = refl
strongest_more found side y (x ∷ bs) b = strongest_more (cond (is_of side y x) (stronger found x) found) side y bs b

-- by the bound's side, and whether it is of the variable
by_side : (side : Side) (y : ℕ) (bs : List Bound) (b : Bound) (s : Side) (q : Bool) → b.side ≡ s → (b.variable == y) ≡ q
    → strongest side y (bs ++ b ∷ []) ≡ cond (same_side side s && q) (stronger (strongest side y bs) b) (strongest side y bs)
by_side side y bs b s q e h = strongest_more None side y bs b ∙ (λ i. cond (same_side side (e i) && h i) (stronger (strongest side y bs) b) (strongest side y bs))

pub limits_more : (bs : List Bound) (b : Bound) (y : ℕ) → (b.variable == y) ≡ true → limits_in (bs ++ b ∷ []) y ≡ tightened (limits_in bs y) b
limits_more bs b y h = by b.side refl
  where
    by : (s : Side) → b.side ≡ s → limits_in (bs ++ b ∷ []) y ≡ with_limit s (stronger (limit_at s (limits_in bs y)) b) (limits_in bs y)
    by Lower e = λ i. record { lower = by_side Lower y bs b Lower true e h i; upper = by_side Upper y bs b Lower true e h i }
    by Upper e = λ i. record { lower = by_side Lower y bs b Upper true e h i; upper = by_side Upper y bs b Upper true e h i }

pub limits_other : (bs : List Bound) (b : Bound) (y : ℕ) → (b.variable == y) ≡ false → limits_in (bs ++ b ∷ []) y ≡ limits_in bs y
limits_other bs b y h = by b.side refl
  where
    by : (s : Side) → b.side ≡ s → limits_in (bs ++ b ∷ []) y ≡ limits_in bs y
    by Lower e = λ i. record { lower = by_side Lower y bs b Lower false e h i; upper = by_side Upper y bs b Lower false e h i }
    by Upper e = λ i. record { lower = by_side Lower y bs b Upper false e h i; upper = by_side Upper y bs b Upper false e h i }

-- the limits of one variable are changed, and those of the others stay
pub one_changed : (ls : List VariableLimits) (x : ℕ) (t : VariableLimits) (old new : ℕ → VariableLimits) → x < length ls → ((y : ℕ) → slice_index_or ls y unlimited ≡ old y) → t ≡ new x
    → ((y : ℕ) → (x == y) ≡ false → new y ≡ old y) → (y : ℕ) → slice_index_or (slice_set ls x t) y unlimited ≡ new y
one_changed ls x t old new h k e o y = by (x == y) refl
  where
    by : (q : Bool) → (x == y) ≡ q → slice_index_or (slice_set ls x t) y unlimited ≡ new y
    by true g = subst (λ z. slice_index_or (slice_set ls x t) z unlimited ≡ new z) (eqb-true x y g) (get_or-set_same ls x t unlimited h ∙ e)
    by false g = get_or-set_other ls x y t unlimited (λ m. eqb-false x y g (sym m)) ∙ k y ∙ sym (o y g)

-- what a bound found is put back
pub put_back : (s : Side) (l : VariableLimits) (t : Option Bound) → with_limit s (limit_at s l) (with_limit s t l) ≡ l
put_back Lower l t = refl
put_back Upper l t = refl

pub limit_is : (s : Side) (y : ℕ) (bs : List Bound) → limit_at s (limits_in bs y) ≡ strongest s y bs
limit_is Lower y bs = refl
limit_is Upper y bs = refl

pub limits_back : (bs : List Bound) (b : Bound) → with_limit b.side (strongest b.side b.variable bs) (limits_in (bs ++ b ∷ []) b.variable) ≡ limits_in bs b.variable
limits_back bs b =
    (λ i. with_limit b.side (sym (limit_is b.side b.variable bs) i) (limits_more bs b b.variable (same_eqb b.variable) i))
    ∙ put_back b.side (limits_in bs b.variable) (stronger (limit_at b.side (limits_in bs b.variable)) b)
