-- Weights under which literals cannot all hold make a clause that the rule takes, unless one of its operations leaves 128 bits.
use Rattle.std.proofs.Common.{◌≡◌, ◌<◌, Bool, true, false, ◌&&◌, ◌||◌, cond, List, [], ◌∷◌, Some, Result, Ok, Err, refl, sym, ◌∙◌, ap, subst}
use Rattle.std.specs.List.{AllByRecursion}
use Rattle.spec_text.specs.Answers.{◌>>=◌}
use Rattle.spec_text.proofs.AnswerLaws.{went, in_turn}
use Rattle.spec_numbers.specs.Fractions.{Fraction, zero_fraction, plus, times, opposite, IsReduced}
use Rattle.spec_numbers.proofs.Field.{plus-assoc, plus-zero, times-comm, opposite-times, zero-reduced}
use Rattle.spec_numbers.specs.Bounds.{Overflow}
use Rattle.spec_sorts.specs.Terms.{Equal, Less, AtMost, Term, app, nil, cons, negated}
use Rattle.spec_arithmetic.specs.Signs.{is_zero, is_above_zero, size}
use Rattle.spec_arithmetic.specs.Forms.{Answer, Form, Fault, constant_form, adding, combined, scaled, difference, variables_value, form_value}
use Rattle.spec_arithmetic.specs.Contradictions as c
use Rattle.spec_arithmetic.specs.Contradictions.{is_nought, is_below, is_at_most, Negation, are_numbers, negation_of, Coefficient, given, paired, paired_with, numbered, Part, saying, without_term, parts_of, weight_by, summed, sum_of, is_strict_part, is_strict, cannot_hold, Failure, as_failure, judged_last, judged_first, judged_parts, judged_pairs, la_generic}
use Rattle.spec_arithmetic.proofs.General.{same_ok, same_some}
use Rattle.spec_arithmetic.proofs.Zero.{plus-zero_left}
use Rattle.spec_arithmetic.proofs.FormValues.{AreProper, IsProper, adding_fair, combined_value, scaled_value, form_value_reduced}
use Rattle.spec_arithmetic.proofs.FormTerms.{constant_value}
use Rattle.spec_arithmetic.proofs.Sound.{without_ok}
use Rattle.spec_simplex.specs.Constraints.{Relation, below, at_most, equals, at_least, above, Constraint, where_true, constraint_by}
use Rattle.spec_simplex.specs.Weights.{Summand, IsSummand, signed_weight, weighted_sum, is_strict_by, has_strict, CannotHold, denials, arguments_of, IsTakenOrWide}
use Rattle.spec_simplex.proofs.LowestForms.{AreLowest, AreNumbers, plus_positive, times_positive}
use Rattle.spec_simplex.proofs.Reversed.{IsLowest, lowest_proper, difference_lowest, difference_reversed}
use Rattle.spec_simplex.proofs.Tidy.{AreTidy, combined_tidy, changed_nonzero, zeros, zeros_reduced, no_variables}

-- how the negation of the clause's literal compares with 0: where the form is at least or above 0, with the sides exchanged
abbrev pub relation_for : Relation → c.Relation
relation_for below = is_below
relation_for at_most = is_at_most
relation_for equals = is_nought
relation_for at_least = is_at_most
relation_for above = is_below

-- what the negation of the clause's literal says
abbrev negation_by : Relation → Term → Term → Term → Negation
negation_by below atom s t = saying is_below atom s t
negation_by at_most atom s t = saying is_at_most atom s t
negation_by equals atom s t = saying is_nought atom s t
negation_by at_least atom s t = saying is_at_most atom t s
negation_by above atom s t = saying is_below atom t s

abbrev negation_for : Constraint → Negation
negation_for x = negation_by x.relation x.atom x.left x.right

-- an atom's negation is read as what the rule subtracts
where_read : (b : Bool) (x y : Constraint) → where_true b x ≡ Some y → c.where_true b (negation_for x) ≡ Some (negation_for y)
where_read true x y e = ap (λ z. Some (negation_for z)) (same_some x y e)
where_read false x y e = cc

denial_read : (positive : Bool) (t : Term) (x : Constraint) → constraint_by positive t ≡ Some x → negation_of true (cond positive (negated t) t) ≡ Some (negation_for x)
unfolding constraint_by negation_of
denial_read true (app Less (cons s (cons t nil))) x e = where_read (are_numbers s t) _ x e
denial_read false (app Less (cons s (cons t nil))) x e = where_read (are_numbers s t) _ x e
denial_read true (app AtMost (cons s (cons t nil))) x e = where_read (are_numbers s t) _ x e
denial_read false (app AtMost (cons s (cons t nil))) x e = where_read (are_numbers s t) _ x e
denial_read true (app Equal (cons s (cons t nil))) x e = where_read (are_numbers s t) _ x e
denial_read positive t x e = cc

-- each literal of the clause with its weight
abbrev pub pairs_for : List Summand → List (Negation × Coefficient)
pairs_for [] = []
pairs_for (x ∷ xs) = (negation_for x.constraint, given x.weight) ∷ pairs_for xs

abbrev pub numbers_for : List Summand → List (Negation × Fraction)
numbers_for [] = []
numbers_for (x ∷ xs) = (negation_for x.constraint, x.weight) ∷ numbers_for xs

pub clause_paired : (xs : List Summand) → AllByRecursion IsSummand xs → paired (denials xs) (arguments_of xs) ≡ Some (pairs_for xs)
unfolding paired
clause_paired [] a = refl
clause_paired (x ∷ xs) a = λ i. paired_with (denial_read x.literal.positive x.literal.atom x.constraint a.0.says i) (given x.weight) (clause_paired xs a.1 i)

pub clause_numbered : (xs : List Summand) → numbered (pairs_for xs) ≡ Ok (numbers_for xs)
unfolding numbered ◌>>=◌
clause_numbered [] = refl
clause_numbered (x ∷ xs) = λ i. clause_numbered xs i >>= λ r. Ok ((negation_for x.constraint, x.weight) ∷ r)

-- a value, or its opposite where sides are exchanged
abbrev exchanged_by : Relation → Fraction → Fraction
exchanged_by below v = v
exchanged_by at_most v = v
exchanged_by equals v = v
exchanged_by at_least v = opposite v
exchanged_by above v = opposite v

-- A part of the rule's sum that a constraint with this relation, form and weight makes.
pub record IsPartOf (r : Relation) (e : Form) (w : Fraction) (p : Part) : Type 0 where
  pub relation : p.relation ≡ relation_for r
  pub weight : p.weight ≡ w
  pub lowest : IsLowest p.form
  pub value : (n : Term → Fraction) → AreNumbers n → form_value n p.form ≡ exchanged_by r (form_value n e)

-- the parts of summands
abbrev pub ArePartsOf : List Summand → List Part → Type 0
ArePartsOf [] [] = Unit {0}
ArePartsOf (x ∷ xs) (p ∷ ps) = IsPartOf x.constraint.relation x.form x.weight p × ArePartsOf xs ps
ArePartsOf _ _ = ⊥

part_of : (r : Relation) (atom s t : Term) (w : Fraction) (e f : Form) → difference atom s t ≡ Ok e → 0 < e.constant.den
    → difference (negation_by r atom s t).atom (negation_by r atom s t).left (negation_by r atom s t).right ≡ Ok f
    → IsPartOf r e w (record { relation = (negation_by r atom s t).relation; form = f; weight = w })
part_of r atom s t w e f h p g = by r g
  where
    same : difference atom s t ≡ Ok f → e ≡ f
    same g = same_ok {E = Fault} _ _ (sym h ∙ g)

    lowest : difference atom s t ≡ Ok f → IsLowest f
    lowest g = subst IsLowest (same g) (difference_lowest atom s t e h p)

    by : (r : Relation) → difference (negation_by r atom s t).atom (negation_by r atom s t).left (negation_by r atom s t).right ≡ Ok f
        → IsPartOf r e w (record { relation = (negation_by r atom s t).relation; form = f; weight = w })
    by below g = record { relation = refl; weight = refl; lowest = lowest g; value = λ n a. ap (form_value n) (sym (same g)) }
    by at_most g = record { relation = refl; weight = refl; lowest = lowest g; value = λ n a. ap (form_value n) (sym (same g)) }
    by equals g = record { relation = refl; weight = refl; lowest = lowest g; value = λ n a. ap (form_value n) (sym (same g)) }
    by at_least g = record {
      relation = refl;
      weight = refl;
      lowest = (difference_reversed zeros zeros_reduced atom s t e f h g p).0;
      value = λ n a. (difference_reversed n a atom s t e f h g p).1;
    }
    by above g = record {
      relation = refl;
      weight = refl;
      lowest = (difference_reversed zeros zeros_reduced atom s t e f h g p).0;
      value = λ n a. (difference_reversed n a atom s t e f h g p).1;
    }

-- the constant of a summand is a number
abbrev pub IsNumeric : Summand → Type 0
IsNumeric x = 0 < x.form.constant.den

-- and that of each of these
abbrev pub AreNumeric : List Summand → Type 0
AreNumeric xs = AllByRecursion IsNumeric xs

pub sum_numeric : (xs : List Summand) → 0 < (weighted_sum zeros xs).den → AreNumeric xs
unfolding weighted_sum form_value
sum_numeric [] h = tt
sum_numeric (x ∷ xs) h =
    let parts = plus_positive _ (weighted_sum zeros xs) h in
    let value = times_positive (signed_weight x.constraint.relation x.weight) (form_value zeros x.form) parts.0 in
    ((plus_positive x.form.constant (variables_value zeros x.form.variables) value.1).0, sum_numeric xs parts.1)

-- what the rule's parts are, where it has them
abbrev pub ArePartsIf : List Summand → Answer (List Part) → Type 0
ArePartsIf xs (Ok ps) = ArePartsOf xs ps
ArePartsIf xs (Err o) = Unit {0}

pub clause_parts : (xs : List Summand) → AllByRecursion IsSummand xs → AreNumeric xs → ArePartsIf xs (parts_of (numbers_for xs))
unfolding parts_of ◌>>=◌
clause_parts [] a h = tt
clause_parts (x ∷ xs) a h =
    let m = negation_for x.constraint in
    in_turn (ArePartsIf (x ∷ xs)) (λ o. tt) (without_term (difference m.atom m.left m.right))
    (λ f. parts_of (numbers_for xs) >>= λ r. Ok (record { relation = m.relation; form = f; weight = x.weight } ∷ r))
    (λ f e. rest f (without_ok _ _ e) (parts_of (numbers_for xs)) (clause_parts xs a.1 h.1))
  where
    rest : (f : Form) → difference (negation_for x.constraint).atom (negation_for x.constraint).left (negation_for x.constraint).right ≡ Ok f
        → (o : Answer (List Part)) → ArePartsIf xs o
        → ArePartsIf (x ∷ xs) (o >>= λ r. Ok (record { relation = (negation_for x.constraint).relation; form = f; weight = x.weight } ∷ r))
    rest f e (Ok ps) k = (part_of x.constraint.relation x.constraint.atom x.constraint.left x.constraint.right x.weight x.form f a.0.has h.0 e, k)
    rest f e (Err o) k = tt

pub opposite_moved : (x y : Fraction) → times x (opposite y) ≡ times (opposite x) y
opposite_moved x y = times-comm x (opposite y) ∙ sym (opposite-times y x) ∙ ap opposite (times-comm y x) ∙ opposite-times x y

lowest_of : (n : Term → Fraction) (vs : List (Term × Fraction)) → AreProper n vs → AreLowest vs
lowest_of n [] p = tt
lowest_of n ((v, k) ∷ rest) p = (p.0.coefficient, lowest_of n rest p.1)

-- products of parts are those of summands
weighted : (r : Relation) (w v : Fraction) → times (weight_by false (relation_for r) w) (exchanged_by r v) ≡ times (signed_weight r w) v
weighted below w v = refl
weighted at_most w v = refl
weighted equals w v = refl
weighted at_least w v = opposite_moved (size w) v
weighted above w v = opposite_moved (size w) v

weight_positive : (r : c.Relation) (w : Fraction) → IsReduced w → 0 < (weight_by false r w).den
unfolding size
weight_positive is_nought w h = h.positive
weight_positive is_below w h = h.positive
weight_positive is_at_most w h = h.positive

strict_part : (r : Relation) (w : Fraction) → is_strict_part (relation_for r) w ≡ is_strict_by r w
strict_part below w = refl
strict_part at_most w = refl
strict_part equals w = refl
strict_part at_least w = refl
strict_part above w = refl

pub parts_strict : (xs : List Summand) (ps : List Part) → ArePartsOf xs ps → is_strict ps ≡ has_strict xs
unfolding is_strict has_strict
parts_strict [] [] h = refl
parts_strict [] (p ∷ ps) h = absurd h
parts_strict (x ∷ xs) [] h = absurd h
parts_strict (x ∷ xs) (p ∷ ps) h =
    λ i. ((λ j. is_strict_part (h.0.relation j) (h.0.weight j)) ∙ strict_part x.constraint.relation x.weight) i || parts_strict xs ps h.1 i

-- A sum of the rule: a form that has a value.
pub record IsSum (n : Term → Fraction) (r : Form) (v : Fraction) : Type 0 where
  pub proper : IsProper n r
  pub tidy : AreTidy r.variables
  pub value : form_value n r ≡ v

pub sum_is : (n : Term → Fraction) → AreNumbers n → (f : Form) (xs : List Summand) (ps : List Part) (r : Form) → summed false f ps ≡ Ok r
    → AllByRecursion IsSummand xs → ArePartsOf xs ps → IsProper n f → AreTidy f.variables → IsSum n r (plus (form_value n f) (weighted_sum n xs))
unfolding summed weighted_sum
sum_is n u f [] [] r e a h p t =
    subst (λ g. IsSum n g (plus (form_value n f) zero_fraction)) (same_ok _ _ e) (record { proper = p; tidy = t; value = sym (plus-zero _ (form_value_reduced n f p)) })
sum_is n u f [] (q ∷ ps) r e a h p t = absurd h
sum_is n u f (x ∷ xs) [] r e a h p t = absurd h
sum_is n u f (x ∷ xs) (q ∷ ps) r e a h p t =
    let w = weight_by false q.relation q.weight in
    let first = went (scaled w q.form) (λ g. combined adding f g >>= λ k. summed false k ps) r e in
    let next = went (combined adding f first.first) (λ k. summed false k ps) r first.then in
    let q_reduced = subst IsReduced (sym h.0.weight) a.0.reduced in
    let k = scaled_value n w q.form first.first first.was (weight_positive q.relation q.weight q_reduced) (lowest_proper n u q.form h.0.lowest) in
    let d = combined_value n adding adding_fair f first.first next.first next.was p k.proper in
    let tidy = combined_tidy f first.first next.first next.was t (changed_nonzero _ q.form first.first first.was) in
    let again = sum_is n u next.first xs ps r next.then a.1 h.1 d.proper tidy in
    let product : form_value n first.first ≡ times (signed_weight x.constraint.relation x.weight) (form_value n x.form) =
    k.value ∙ (λ i. times (weight_by false (h.0.relation i) (h.0.weight i)) (h.0.value n u i)) ∙ weighted x.constraint.relation x.weight (form_value n x.form) in
    record {
      proper = again.proper;
      tidy = again.tidy;
      value = again.value ∙ ap (λ v. plus v (weighted_sum n xs)) (d.value ∙ ap (plus (form_value n f)) product)
          ∙ plus-assoc (form_value n f) _ (weighted_sum n xs);
    }

-- the sum is a contradiction
contradiction : (xs : List Summand) → AllByRecursion IsSummand xs → (k : CannotHold xs) → (ps : List Part) → ArePartsOf xs ps → (r : Form) → sum_of false ps ≡ Ok r
    → cannot_hold (is_strict ps) r ≡ true
unfolding form_value variables_value
contradiction xs a k ps h r e = ended r.constant r.variables constant reduced (no_variables r.constant r.variables k.sum constant lowest (at zeros zeros_reduced).tidy value)
  where
    begin_value : (n : Term → Fraction) → AreNumbers n → plus (form_value n (constant_form zero_fraction)) (weighted_sum n xs) ≡ k.sum
    begin_value n u =
        ap (λ v. plus v (weighted_sum n xs)) (constant_value n zero_fraction zero-reduced) ∙ ap (plus zero_fraction) (k.same n u) ∙ plus-zero_left k.sum k.reduced

    at : (n : Term → Fraction) → AreNumbers n → IsSum n r k.sum
    at n u = subst (IsSum n r) (begin_value n u)
        (sum_is n u (constant_form zero_fraction) xs ps r e a h (record { constant = zero-reduced; variables = tt }) tt)

    constant : IsReduced r.constant
    constant = (at zeros zeros_reduced).proper.constant

    lowest : AreLowest r.variables
    lowest = lowest_of zeros r.variables (at zeros zeros_reduced).proper.variables

    value : (n : Term → Fraction) → AreNumbers n → plus r.constant (variables_value n r.variables) ≡ k.sum
    value n u = (at n u).value

    reduced : plus r.constant (variables_value zeros r.variables) ≡ k.sum
    reduced = value zeros zeros_reduced

    ended : (q : Fraction) (vs : List (Term × Fraction)) → IsReduced q → plus q (variables_value zeros vs) ≡ k.sum → vs ≡ []
        → cannot_hold (is_strict ps) (record { constant = q; variables = vs }) ≡ true
    ended q [] l e none =
        let is : q ≡ k.sum = sym (plus-zero q l) ∙ e in
        (λ i. is_above_zero (is i) || (is_zero (is i) && parts_strict xs ps h i)) ∙ k.sign
    ended q (x ∷ vs) l e none = cc

-- what follows an answer is taken, unless an operation leaves 128 bits
taken_in_turn : {A : Type 0} (a : Answer A) (f : A → Result (Unit {0}) Failure) → ((x : A) → a ≡ Ok x → IsTakenOrWide (f x)) → IsTakenOrWide (as_failure a >>= f)
unfolding ◌>>=◌
taken_in_turn (Ok x) f h = h x refl
taken_in_turn (Err o) f h = tt

-- and so is the clause of what follows in the list
parts_taken : (xs : List Summand) → AllByRecursion IsSummand xs → CannotHold xs → (ps : List Part) → ArePartsOf xs ps → IsTakenOrWide (judged_parts ps)
parts_taken xs a k ps h =
    taken_in_turn (sum_of false ps) (λ f. judged_first ps f) (λ f e. by f (cannot_hold (is_strict ps) f) (contradiction xs a k ps h f e))
  where
    by : (f : Form) (b : Bool) → b ≡ true
        → IsTakenOrWide (let r : Result (Unit {0}) Failure = elim b [ true ↦ Ok tt | false ↦ as_failure (sum_of true ps) >>= λ g. judged_last ps g ] in r)
    by f true e = tt
    by f false e = cc

pub clause_taken : (xs : List Summand) → AllByRecursion IsSummand xs → CannotHold xs → IsTakenOrWide (la_generic (denials xs) (arguments_of xs))
unfolding la_generic
clause_taken xs a k =
    subst (λ o. IsTakenOrWide (judged_pairs o)) (sym (clause_paired xs a))
    (taken_in_turn (numbered (pairs_for xs)) (λ ns. as_failure (parts_of ns) >>= λ qs. judged_parts qs)
    (λ ns e. subst (λ ns. IsTakenOrWide (as_failure (parts_of ns) >>= λ qs. judged_parts qs)) (same_ok {E = Overflow} _ _ (sym (clause_numbered xs) ∙ e))
    (taken_in_turn (parts_of (numbers_for xs)) (λ qs. judged_parts qs)
    (λ ps f. parts_taken xs a k ps (subst (ArePartsIf xs) f (clause_parts xs a (sum_numeric xs positive)))))))
  where
    positive : 0 < (weighted_sum zeros xs).den
    positive = subst (λ (q : Fraction). 0 < q.den) (sym (k.same zeros zeros_reduced)) k.reduced.positive
