-- The least variable whose bounds cross, after one bound more.
use Rattle.std.proofs.Common.{◌≡◌, ℕ, ◌<◌, ◌≤◌, Bool, true, false, ◌==◌, cond, List, [], ◌∷◌, ◌++◌, Option, Some, None, refl, sym, ◌∙◌, ap, arith}
use Rattle.std.specs.Prelude.{nat_lt}
use Rattle.std.proofs.lemmas.Bool.{eqb-true}
use Rattle.std.proofs.lemmas.Bool.Decides.{nat_tests}
use Rattle.spec_tableaux.specs.Ranges.{is_crossed, crosses}
use Rattle.spec_tableaux.specs.LeastVariable.{IsLeast}
use Rattle.spec_tableaux.proofs.Steps.{same_eqb}
use Rattle.simplex_bounds.specs.declared.bounds.Bound.{Bound}
use Rattle.simplex_bounds.specs.declared.bounds.Side.{Side}
use Rattle.simplex_bounds.specs.declared.bounds.Side.TheVariants.{Lower, Upper}
use Rattle.simplex_bounds.specs.declared.limits.VariableLimits.{VariableLimits}
use Rattle.simplex_bounds.specs.Deltas.{pair_of}
use Rattle.spec_tableaux.specs.Points.{deltas}
use Rattle.simplex_bounds.specs.Held.{stronger, is_tighter, value_in, ranges_in, lesser, IsLeastCrossed}
use Rattle.simplex_bounds.specs.Limits.{limit_at, with_limit, tightened, are_crossed, limits_in}
use Rattle.simplex_bounds.proofs.Orders.{less_transitive}
use Rattle.simplex_bounds.proofs.Strongest.{limits_more, limits_other}

-- bounds that cross do so when one of them is tightened
pub still_crossed : (l : VariableLimits) (b : Bound) → are_crossed l ≡ true → are_crossed (tightened l b) ≡ true
still_crossed l b h = by b.side refl l.lower l.upper h
  where
    raised : (a u : Bound) (q : Bool) → deltas.less (pair_of a.value) (pair_of b.value) ≡ q → deltas.less (pair_of u.value) (pair_of a.value) ≡ true
        → deltas.less (pair_of u.value) (pair_of (cond q b a).value) ≡ true
    raised a u true e h = less_transitive (pair_of u.value) (pair_of a.value) (pair_of b.value) h e
    raised a u false e h = h

    lowered : (a u : Bound) (q : Bool) → deltas.less (pair_of b.value) (pair_of u.value) ≡ q → deltas.less (pair_of u.value) (pair_of a.value) ≡ true
        → deltas.less (pair_of (cond q b u).value) (pair_of a.value) ≡ true
    lowered a u true e h = less_transitive (pair_of b.value) (pair_of u.value) (pair_of a.value) e h
    lowered a u false e h = h

    by : (s : Side) → b.side ≡ s → (lower upper : Option Bound) → crosses deltas (value_in lower) (value_in upper) ≡ true
        → are_crossed (with_limit s (stronger (limit_at s (record { lower = lower; upper = upper })) b) (record { lower = lower; upper = upper })) ≡ true
    by s e None upper h = absurd (cc)
    by s e (Some a) None h = absurd (cc)
    by Lower e (Some a) (Some u) h = raised a u (is_tighter b.side (pair_of b.value) (pair_of a.value)) (ap (λ s. is_tighter s (pair_of b.value) (pair_of a.value)) (sym e)) h
    by Upper e (Some a) (Some u) h = lowered a u (is_tighter b.side (pair_of b.value) (pair_of u.value)) (ap (λ s. is_tighter s (pair_of b.value) (pair_of u.value)) (sym e)) h

not_equal : (x y : ℕ) → y < x → (x == y) ≡ false
not_equal x y h = by (x == y) refl
  where
    by : (q : Bool) → (x == y) ≡ q → q ≡ false
    by true e = let k = eqb-true x y e in absurd (omega (arith, k))
    by false e = refl

-- none is the least once none was, but for x
none_step : (p q : ℕ → Bool) (x : ℕ) → ((y : ℕ) → p y ≡ false) → ((y : ℕ) → (x == y) ≡ false → q y ≡ p y) → q x ≡ false → (y : ℕ) → q y ≡ false
none_step p q x n o h y = by (x == y) refl
  where
    by : (r : Bool) → (x == y) ≡ r → q y ≡ false
    by true e = ap q (sym (eqb-true x y e)) ∙ h
    by false e = o y e ∙ n y

none_before : (p q : ℕ → Bool) (x : ℕ) → ((y : ℕ) → p y ≡ false) → ((y : ℕ) → (x == y) ≡ false → q y ≡ p y) → q x ≡ true → IsLeast q x
none_before p q x n o h = record { holds = h; least = λ y k. o y (not_equal x y k) ∙ n y }

-- the least before, or x
lesser_step : (p q : ℕ → Bool) (x z : ℕ) → IsLeast p z → ((y : ℕ) → (x == y) ≡ false → q y ≡ p y) → q x ≡ true → IsLeast q (cond (nat_lt z x) z x)
lesser_step p q x z l o h = by (nat_lt z x) refl
  where
    by : (r : Bool) → nat_lt z x ≡ r → IsLeast q (cond r z x)
    by true e =
        let k : z < x = grind (arith, nat_tests) in
        record { holds = o z (not_equal x z k) ∙ l.holds; least = λ y m. o y (not_equal x y (omega (arith, k, m))) ∙ l.least y m }
    by false e =
        let k : x ≤ z = grind (arith, nat_tests) in
        record { holds = h; least = λ y m. o y (not_equal x y m) ∙ l.least y (omega (arith, k, m)) }

-- the least before stays
least_stays : (p q : ℕ → Bool) (x z : ℕ) → IsLeast p z → ((y : ℕ) → (x == y) ≡ false → q y ≡ p y) → (p x ≡ true → q x ≡ true) → q x ≡ false → IsLeast q z
least_stays p q x z l o t h = record { holds = holds (x == z) refl; least = λ y m. least y m (x == y) refl }
  where
    holds : (r : Bool) → (x == z) ≡ r → q z ≡ true
    holds true e = ap q (sym (eqb-true x z e)) ∙ t (ap p (eqb-true x z e) ∙ l.holds)
    holds false e = o z e ∙ l.holds

    least : (y : ℕ) → y < z → (r : Bool) → (x == y) ≡ r → q y ≡ false
    least y m true e = ap q (sym (eqb-true x y e)) ∙ h
    least y m false e = o y e ∙ l.least y m

-- the least variable whose bounds cross once a bound is held
pub crossed_step : (held : List Bound) (b : Bound) (before : Option ℕ) → IsLeastCrossed held before
    → IsLeastCrossed (held ++ b ∷ []) (cond (are_crossed (tightened (limits_in held b.variable) b)) (Some (lesser before b.variable)) before)
crossed_step held b before l = by before (are_crossed (tightened (limits_in held b.variable) b)) l (ap are_crossed (limits_more held b b.variable (same_eqb b.variable)))
  where
    p : ℕ → Bool
    p = is_crossed deltas (ranges_in held)

    q : ℕ → Bool
    q = is_crossed deltas (ranges_in (held ++ b ∷ []))

    other : (y : ℕ) → (b.variable == y) ≡ false → q y ≡ p y
    other y e = ap are_crossed (limits_other held b y e)

    tighter : p b.variable ≡ true → q b.variable ≡ true
    tighter h = ap are_crossed (limits_more held b b.variable (same_eqb b.variable)) ∙ still_crossed (limits_in held b.variable) b h

    by : (before : Option ℕ) (r : Bool) → IsLeastCrossed held before → q b.variable ≡ r → IsLeastCrossed (held ++ b ∷ []) (cond r (Some (lesser before b.variable)) before)
    by None true n h = none_before p q b.variable n other h
    by None false n h = none_step p q b.variable n other h
    by (Some z) true n h = lesser_step p q b.variable z n other h
    by (Some z) false n h = least_stays p q b.variable z n other tighter h
