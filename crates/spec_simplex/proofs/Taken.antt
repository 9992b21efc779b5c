-- A clause that the rule takes shows that no point keeps the literals that it denies.
use Rattle.std.proofs.Common.{◌≡◌, Bool, true, false, ◌&&◌, ◌||◌, List, [], ◌∷◌, map, Some, Result, Ok, refl, sym, ◌∙◌, ap, subst}
use Rattle.std.specs.List.{AllByRecursion}
use Rattle.std.proofs.lemmas.Bool.{false≢true}
use Rattle.spec_text.specs.Answers.{◌>>=◌}
use Rattle.spec_text.proofs.AnswerLaws.{went}
use Rattle.spec_numbers.specs.Fractions.{Fraction, zero_fraction, plus, opposite, IsReduced}
use Rattle.spec_numbers.specs.Bounds.{Overflow}
use Rattle.spec_numbers.proofs.Field.{plus-zero, plus-reduced, times-reduced, opposite-reduced, zero-reduced}
use Rattle.spec_sorts.specs.Terms.{Term}
use Rattle.spec_arithmetic.specs.Signs.{is_zero, is_above_zero}
use Rattle.spec_arithmetic.specs.Forms.{Form, constant_form, adding, combined, scaled, variables_value, form_value}
use Rattle.spec_arithmetic.specs.Contradictions as c
use Rattle.spec_arithmetic.specs.Contradictions.{is_nought, is_below, is_at_most, numbered, Part, parts_of, weight_by, summed, sum_of, is_strict_part, is_strict, cannot_hold, Failure, as_failure, taken_if, judged_last, judged_first, judged_parts, judged_pairs, la_generic}
use Rattle.spec_arithmetic.proofs.General.{same_ok}
use Rattle.spec_arithmetic.proofs.Zero.{plus-zero_left}
use Rattle.spec_arithmetic.proofs.FormValues.{form_value_reduced}
use Rattle.spec_arithmetic.proofs.FormTerms.{constant_value}
use Rattle.spec_arithmetic.proofs.Sums.{as_ok}
use Rattle.spec_simplex.specs.Points.{Point, KeepsLiteral}
use Rattle.spec_simplex.specs.Weights.{Summand, IsSummand, weighted_sum, CannotHold, literals_in, denials, arguments_of}
use Rattle.spec_simplex.proofs.LowestForms.{AreNumbers}
use Rattle.spec_simplex.proofs.Reversed.{lowest_proper, difference_lowest}
use Rattle.spec_simplex.proofs.Tidy.{zeros, zeros_reduced}
use Rattle.spec_simplex.proofs.Refuting.{relation_for, pairs_for, numbers_for, clause_paired, clause_numbered, ArePartsOf, ArePartsIf, AreNumeric, clause_parts, parts_strict, IsSum, sum_is}
use Rattle.spec_simplex.proofs.Infeasible.{signed_positive, no_point}

-- the sum is in lowest terms
sum_reduced : (n : Term → Fraction) → AreNumbers n → (xs : List Summand) → AllByRecursion IsSummand xs → AreNumeric xs → IsReduced (weighted_sum n xs)
unfolding weighted_sum
sum_reduced n u [] a h = zero-reduced
sum_reduced n u (x ∷ xs) a h =
    let l = difference_lowest x.constraint.atom x.constraint.left x.constraint.right x.form a.0.has h.0 in
    let product = times-reduced _ (form_value n x.form) (signed_positive x.constraint.relation x.weight a.0.reduced) (form_value_reduced n x.form (lowest_proper n u x.form l)).positive in
    plus-reduced _ _ product.positive (sum_reduced n u xs a.1 h.1).positive

-- a sum of the rule that cannot hold makes summands that cannot
sum_holds_not : (xs : List Summand) → AllByRecursion IsSummand xs → AreNumeric xs → (ps : List Part) → ArePartsOf xs ps → (r : Form) → sum_of false ps ≡ Ok r
    → cannot_hold (is_strict ps) r ≡ true → CannotHold xs
unfolding form_value variables_value
sum_holds_not xs a h ps k r e t = by r.constant r.variables (at zeros zeros_reduced).proper.constant (λ n u. (at n u).value) t
  where
    at : (n : Term → Fraction) → AreNumbers n → IsSum n r (weighted_sum n xs)
    at n u = subst (IsSum n r)
        (ap (λ v. plus v (weighted_sum n xs)) (constant_value n zero_fraction zero-reduced) ∙ plus-zero_left (weighted_sum n xs) (sum_reduced n u xs a h))
        (sum_is n u (constant_form zero_fraction) xs ps r e a k (record { constant = zero-reduced; variables = tt }) tt)

    by : (q : Fraction) (vs : List (Term × Fraction)) → IsReduced q
        → ((n : Term → Fraction) → AreNumbers n → plus q (variables_value n vs) ≡ weighted_sum n xs)
        → cannot_hold (is_strict ps) (record { constant = q; variables = vs }) ≡ true → CannotHold xs
    by q (v ∷ vs) l same t = absurd (false≢true t)
    by q [] l same t = record {
      sum = q;
      reduced = l;
      same = λ n u. sym (same n u) ∙ plus-zero q l;
      sign = (λ i. is_above_zero q || (is_zero q && sym (parts_strict xs ps k) i)) ∙ t;
    }

-- equalities turned
abbrev turned_weight : c.Relation → Fraction → Fraction
turned_weight is_nought w = opposite w
turned_weight is_below w = w
turned_weight is_at_most w = w

abbrev turned_part : Part → Part
turned_part p = record { relation = p.relation; form = p.form; weight = turned_weight p.relation p.weight }

abbrev turned_summand : Summand → Summand
turned_summand x = record { literal = x.literal; constraint = x.constraint; form = x.form; weight = turned_weight (relation_for x.constraint.relation) x.weight }

weight_turned : (r : c.Relation) (w : Fraction) → weight_by true r w ≡ weight_by false r (turned_weight r w)
weight_turned is_nought w = refl
weight_turned is_below w = refl
weight_turned is_at_most w = refl

strict_turned : (r : c.Relation) (w : Fraction) → is_strict_part r w ≡ is_strict_part r (turned_weight r w)
strict_turned is_nought w = refl
strict_turned is_below w = refl
strict_turned is_at_most w = refl

reduced_turned : (r : c.Relation) (w : Fraction) → IsReduced w → IsReduced (turned_weight r w)
reduced_turned is_nought w h = opposite-reduced w h
reduced_turned is_below w h = h
reduced_turned is_at_most w h = h

sum_turned : (ps : List Part) (f : Form) → summed true f ps ≡ summed false f (map turned_part ps)
unfolding summed
sum_turned [] f = refl
sum_turned (p ∷ ps) f = λ i.
    scaled (weight_turned p.relation p.weight i) p.form >>= λ g. combined adding f g >>= λ h. sum_turned ps h i

all_strict_turned : (ps : List Part) → is_strict ps ≡ is_strict (map turned_part ps)
unfolding is_strict
all_strict_turned [] = refl
all_strict_turned (p ∷ ps) = λ i. strict_turned p.relation p.weight i || all_strict_turned ps i

parts_turned : (xs : List Summand) (ps : List Part) → ArePartsOf xs ps → ArePartsOf (map turned_summand xs) (map turned_part ps)
parts_turned [] [] h = tt
parts_turned [] (p ∷ ps) h = absurd h
parts_turned (x ∷ xs) [] h = absurd h
parts_turned (x ∷ xs) (p ∷ ps) h = (
  record { relation = h.0.relation; weight = λ i. turned_weight (h.0.relation i) (h.0.weight i); lowest = h.0.lowest; value = h.0.value },
  parts_turned xs ps h.1,
)

summands_turned : (xs : List Summand) → AllByRecursion IsSummand xs → AllByRecursion IsSummand (map turned_summand xs)
summands_turned [] a = tt
summands_turned (x ∷ xs) a = (
  record { says = a.0.says; has = a.0.has; reduced = reduced_turned (relation_for x.constraint.relation) x.weight a.0.reduced },
  summands_turned xs a.1,
)

numeric_turned : (xs : List Summand) → AreNumeric xs → AreNumeric (map turned_summand xs)
numeric_turned [] h = tt
numeric_turned (x ∷ xs) h = (h.0, numeric_turned xs h.1)

-- a point keeps the literals of summands
abbrev pub AreKept : Point → List Summand → Type 0
AreKept p xs = AllByRecursion (KeepsLiteral p) (literals_in xs)

kept_turned : (p : Point) (xs : List Summand) → AreKept p xs → AreKept p (map turned_summand xs)
kept_turned p [] h = tt
kept_turned p (x ∷ xs) h = (h.0, kept_turned p xs h.1)

judged_infeasible : (xs : List Summand) → AllByRecursion IsSummand xs → AreNumeric xs → (ps : List Part) → ArePartsOf xs ps → judged_parts ps ≡ Ok tt
    → (p : Point) → AreKept p xs → ⊥
judged_infeasible xs a h ps k e p m =
    let b = went (as_failure (sum_of false ps)) (λ f. judged_first ps f) tt e in
    first b.first (as_ok _ _ b.was) (cannot_hold (is_strict ps) b.first) refl b.then
  where
    given : (r : Form) → sum_of false ps ≡ Ok r → cannot_hold (is_strict ps) r ≡ true → ⊥
    given r s t = no_point xs a (sum_holds_not xs a h ps k r s t) p m

    turned : (r : Form) → sum_of true ps ≡ Ok r → cannot_hold (is_strict ps) r ≡ true → ⊥
    turned r s t =
        let others = sum_holds_not (map turned_summand xs) (summands_turned xs a) (numeric_turned xs h) (map turned_part ps) (parts_turned xs ps k) r
        (sym (sum_turned ps (constant_form zero_fraction)) ∙ s) (ap (λ b. cannot_hold b r) (sym (all_strict_turned ps)) ∙ t) in
        no_point (map turned_summand xs) (summands_turned xs a) others p (kept_turned p xs m)

    last : (r : Form) → sum_of true ps ≡ Ok r → (b : Bool) → cannot_hold (is_strict ps) r ≡ b → taken_if b ≡ Ok tt → ⊥
    last r s true t e = turned r s t
    last r s false t e = cc

    first : (r : Form) → sum_of false ps ≡ Ok r → (b : Bool) → cannot_hold (is_strict ps) r ≡ b
        → (let q : Result (Unit {0}) Failure = elim b [ true ↦ Ok tt | false ↦ as_failure (sum_of true ps) >>= λ g. judged_last ps g ] in q) ≡ Ok tt → ⊥
    first r s true t e = given r s t
    first r s false t e =
        let b = went (as_failure (sum_of true ps)) (λ g. judged_last ps g) tt e in
        last b.first (as_ok _ _ b.was) (cannot_hold (is_strict ps) b.first) refl b.then

pub taken_infeasible : (xs : List Summand) → AllByRecursion IsSummand xs → AreNumeric xs → la_generic (denials xs) (arguments_of xs) ≡ Ok tt → (p : Point) → AreKept p xs → ⊥
unfolding la_generic
taken_infeasible xs a h e p m =
    let f : judged_pairs (Some (pairs_for xs)) ≡ Ok tt = subst (λ o. judged_pairs o ≡ Ok tt) (clause_paired xs a) e in
    let b = went (as_failure (numbered (pairs_for xs))) (λ ns. as_failure (parts_of ns) >>= λ qs. judged_parts qs) tt f in
    let ns_is : b.first ≡ numbers_for xs = same_ok {E = Overflow} _ _ (sym (as_ok _ _ b.was) ∙ clause_numbered xs) in
    let g = went (as_failure (parts_of (numbers_for xs))) (λ qs. judged_parts qs) tt
    (subst (λ ns. (as_failure (parts_of ns) >>= λ qs. judged_parts qs) ≡ Ok tt) ns_is b.then) in
    judged_infeasible xs a h g.first (subst (ArePartsIf xs) (as_ok _ _ g.was) (clause_parts xs a h)) g.then p m
