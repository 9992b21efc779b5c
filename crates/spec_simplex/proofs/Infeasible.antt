-- Literals of summands that cannot all hold have no point that keeps them.
use Rattle.std.proofs.Common.{◌≡◌, ◌<◌, Bool, true, false, ◌||◌, List, [], ◌∷◌, refl, sym, ◌∙◌, ap, subst, true≢false}
use Rattle.std.specs.List.{AllByRecursion}
use Rattle.std.proofs.lemmas.Bool.{and_parts, not-true}
use Rattle.spec_numbers.specs.Fractions.{Fraction, zero_fraction, plus, times, opposite, IsReduced}
use Rattle.spec_numbers.proofs.Field.{plus-cross, plus-zero, plus-reduced, times-reduced, times-plus_left, opposite-reduced, zero-reduced}
use Rattle.spec_arithmetic.specs.Signs.{is_zero, size}
use Rattle.spec_arithmetic.specs.Forms.{Form, form_value}
use Rattle.spec_arithmetic.proofs.Zero.{times-zero}
use Rattle.spec_arithmetic.proofs.Differences.{zero-at_most}
use Rattle.spec_arithmetic.proofs.FormValues.{form_value_reduced, variables_reduced}
use Rattle.spec_simplex.specs.Constraints.{Relation, below, at_most, equals, at_least, above}
use Rattle.spec_simplex.specs.Points.{Point, bases, tilts, base_at, tilt_at, relates, KeepsLiteral}
use Rattle.spec_simplex.specs.Weights.{Summand, IsSummand, signed_weight, weighted_sum, is_strict_by, has_strict, CannotHold, literals_in}
use Rattle.spec_simplex.proofs.LowestForms.{AreNumbers, proper_of}
use Rattle.spec_simplex.proofs.Reversed.{IsLowest, lowest_proper, difference_lowest}
use Rattle.spec_simplex.proofs.Tidy.{zeros, zeros_reduced, zeros_value, cancelled}
use Rattle.spec_simplex.proofs.PairSigns.{IsUpTo, zero_up_to, no_sum, level, IsLess, less_up_to, plus_up_to, plus_less, plus_less_right, times_up_to, times_less, zero_is, under_less, not_over_up_to, over_less, not_under_up_to}
use Rattle.spec_simplex.proofs.Refuting.{AreNumeric, sum_numeric, opposite_moved}

pub signed_positive : (r : Relation) (w : Fraction) → IsReduced w → 0 < (signed_weight r w).den
unfolding size opposite
signed_positive below w h = h.positive
signed_positive at_most w h = h.positive
signed_positive equals w h = h.positive
signed_positive at_least w h = h.positive
signed_positive above w h = h.positive

exchanged_up_to : (w b t : Fraction) → IsUpTo (times (size w) (opposite b)) (times (size w) (opposite t)) → IsUpTo (times (opposite (size w)) b) (times (opposite (size w)) t)
exchanged_up_to w b t h =
    subst (λ x. IsUpTo x (times (opposite (size w)) t)) (opposite_moved (size w) b) (subst (IsUpTo (times (size w) (opposite b))) (opposite_moved (size w) t) h)

-- a product at most 0
product_up_to : (r : Relation) (w b t : Fraction) → IsReduced w → IsReduced b → IsReduced t → relates r b t ≡ true → IsUpTo (times (signed_weight r w) b) (times (signed_weight r w) t)
product_up_to below w b t p q s e = times_up_to w b t p.positive q.positive s.positive (less_up_to b t (under_less b t q e))
product_up_to at_most w b t p q s e = times_up_to w b t p.positive q.positive s.positive (not_over_up_to b t q (not-true _ e))
product_up_to equals w b t p q s e =
    let parts = and_parts (is_zero b) (is_zero t) e in
    level (zero_product b q parts.0) (zero_up_to _ (zero_product t s parts.1))
  where
    zero_product : (x : Fraction) → IsReduced x → is_zero x ≡ true → times w x ≡ zero_fraction
    zero_product x r h = ap (times w) (zero_is x r h) ∙ times-zero w p.positive
product_up_to at_least w b t p q s e =
    exchanged_up_to w b t (times_up_to w (opposite b) (opposite t) p.positive (opposite-reduced b q).positive (opposite-reduced t s).positive
    (not_under_up_to b t (opposite-reduced b q) (not-true _ e)))
product_up_to above w b t p q s e =
    exchanged_up_to w b t (times_up_to w (opposite b) (opposite t) p.positive (opposite-reduced b q).positive (opposite-reduced t s).positive
    (less_up_to (opposite b) (opposite t) (over_less b t (opposite-reduced b q) e)))

-- and below 0, where it is strict
product_less : (r : Relation) (w b t : Fraction) → IsReduced w → IsReduced b → IsReduced t → relates r b t ≡ true → is_strict_by r w ≡ true → IsLess (times (signed_weight r w) b) (times (signed_weight r w) t)
product_less below w b t p q s e h = times_less w b t p.positive (not-true _ h) (under_less b t q e)
product_less at_most w b t p q s e h = absurd (true≢false (sym h))
product_less equals w b t p q s e h = absurd (true≢false (sym h))
product_less at_least w b t p q s e h = absurd (true≢false (sym h))
product_less above w b t p q s e h =
    subst (λ x. IsLess x (times (opposite (size w)) t)) (opposite_moved (size w) b) (subst (IsLess (times (size w) (opposite b))) (opposite_moved (size w) t)
    (times_less w (opposite b) (opposite t) p.positive (not-true _ h) (over_less b t (opposite-reduced b q) e)))

-- the sum of the forms' tilts, each times its weight
unfoldable tilt_sum : Point → List Summand → Fraction
tilt_sum p [] = zero_fraction
tilt_sum p (x ∷ xs) = plus (times (signed_weight x.constraint.relation x.weight) (tilt_at p x.form)) (tilt_sum p xs)

-- What the sum is at a point that keeps the literals.
record IsKept (p : Point) (xs : List Summand) : Type 0 where
  base : IsReduced (weighted_sum (bases p) xs)
  tilt : IsReduced (tilt_sum p xs)
  up_to : IsUpTo (weighted_sum (bases p) xs) (tilt_sum p xs)
  less : has_strict xs ≡ true → IsLess (weighted_sum (bases p) xs) (tilt_sum p xs)
  -- the tilts are what the sum would have more than with all terms 0
  more : weighted_sum (tilts p) xs ≡ plus (weighted_sum zeros xs) (tilt_sum p xs)

bases_reduced : (p : Point) → AreNumbers (bases p)
bases_reduced p t = (p t).base.reduced

tilts_reduced : (p : Point) → AreNumbers (tilts p)
tilts_reduced p t = (p t).tilt.reduced

-- a form's value with the tilts as numbers: the value where all terms are 0, and the form's tilt
tilt_more : (p : Point) (f : Form) → IsLowest f → form_value (tilts p) f ≡ plus (form_value zeros f) (tilt_at p f)
unfolding form_value
tilt_more p f l = ap (λ v. plus v (tilt_at p f)) (sym (ap (plus f.constant) (zeros_value f.variables l.variables) ∙ plus-zero f.constant l.constant))

either : {P : Type 0} (a b : Bool) → a || b ≡ true → (a ≡ true → P) → (b ≡ true → P) → P
either true b e f g = f refl
either false b e f g = g e

one_kept : (p : Point) (x : Summand) (xs : List Summand) → IsSummand x → IsLowest x.form → relates x.constraint.relation (base_at p x.form) (tilt_at p x.form) ≡ true
    → IsKept p xs → IsKept p (x ∷ xs)
unfolding weighted_sum tilt_sum has_strict
one_kept p x xs s l e k = record {
  base = plus-reduced _ _ products_base.positive k.base.positive;
  tilt = plus-reduced _ _ products_tilt.positive k.tilt.positive;
  up_to = plus_up_to _ _ _ _ products_base.positive k.base.positive up_to k.up_to;
  less = λ h. either (is_strict_by x.constraint.relation x.weight) (has_strict xs) h
      (λ h. plus_less _ _ _ _ products_base.positive k.base.positive k.tilt.positive (product_less x.constraint.relation x.weight (base_at p x.form) (tilt_at p x.form) s.reduced base tilt e h) k.up_to)
      (λ h. plus_less_right _ _ _ _ products_base.positive k.base.positive products_tilt.positive up_to (k.less h));
  more = (λ i. plus ((ap (times (signed_weight x.constraint.relation x.weight)) (tilt_more p x.form l) ∙ times-plus_left (form_value zeros x.form) (tilt_at p x.form) (signed_weight x.constraint.relation x.weight) positive) i) (k.more i))
      ∙ plus-cross (times _ (form_value zeros x.form)) (times _ (tilt_at p x.form)) (weighted_sum zeros xs) (tilt_sum p xs);
}
  where
    positive : 0 < (signed_weight x.constraint.relation x.weight).den
    positive = signed_positive x.constraint.relation x.weight s.reduced

    base : IsReduced (base_at p x.form)
    base = form_value_reduced (bases p) x.form (lowest_proper (bases p) (bases_reduced p) x.form l)

    tilt : IsReduced (tilt_at p x.form)
    tilt = variables_reduced (tilts p) x.form.variables (proper_of (tilts p) (tilts_reduced p) x.form.variables l.variables)

    products_base : IsReduced (times (signed_weight x.constraint.relation x.weight) (base_at p x.form))
    products_base = times-reduced _ _ positive base.positive

    products_tilt : IsReduced (times (signed_weight x.constraint.relation x.weight) (tilt_at p x.form))
    products_tilt = times-reduced _ _ positive tilt.positive

    up_to : IsUpTo (times (signed_weight x.constraint.relation x.weight) (base_at p x.form)) (times (signed_weight x.constraint.relation x.weight) (tilt_at p x.form))
    up_to = product_up_to x.constraint.relation x.weight (base_at p x.form) (tilt_at p x.form) s.reduced base tilt e

kept : (p : Point) (xs : List Summand) → AllByRecursion IsSummand xs → AreNumeric xs → AllByRecursion (KeepsLiteral p) (literals_in xs) → IsKept p xs
unfolding weighted_sum tilt_sum has_strict
kept p [] a h m = record {
  base = zero-reduced;
  tilt = zero-reduced;
  up_to = level refl zero-at_most;
  less = λ e. absurd (true≢false (sym e));
  more = sym (plus-zero zero_fraction zero-reduced);
}
kept p (x ∷ xs) a h m =
    one_kept p x xs a.0 (difference_lowest x.constraint.atom x.constraint.left x.constraint.right x.form a.0.has h.0)
    (m.0 x.constraint a.0.says x.form a.0.has) (kept p xs a.1 h.1 m.1)

-- no point keeps them
pub no_point : (xs : List Summand) → AllByRecursion IsSummand xs → CannotHold xs → (p : Point) → AllByRecursion (KeepsLiteral p) (literals_in xs) → ⊥
no_point xs a k p m = no_sum k.sum (has_strict xs) k.sign
    (subst (λ t. IsUpTo k.sum t) none (subst (λ b. IsUpTo b (tilt_sum p xs)) is at.up_to))
    (λ h. subst (λ t. IsLess k.sum t) none (subst (λ b. IsLess b (tilt_sum p xs)) is (at.less h)))
  where
    at : IsKept p xs
    at = kept p xs a (sum_numeric xs (subst (λ (q : Fraction). 0 < q.den) (sym (k.same zeros zeros_reduced)) k.reduced.positive)) m

    is : weighted_sum (bases p) xs ≡ k.sum
    is = k.same (bases p) (bases_reduced p)

    none : tilt_sum p xs ≡ zero_fraction
    none = cancelled k.sum (tilt_sum p xs) zero_fraction k.reduced at.tilt zero-reduced
        (ap (λ s. plus s (tilt_sum p xs)) (sym (k.same zeros zeros_reduced)) ∙ sym at.more ∙ k.same (tilts p) (tilts_reduced p) ∙ sym (plus-zero k.sum k.reduced))
