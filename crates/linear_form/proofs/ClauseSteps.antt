-- Steps of the loops over a clause, and how it is judged.
use Rattle.std.proofs.Common.{◌≡◌, ℕ, ◌+◌, ◌<◌, ◌≤◌, suc, true, Option, Some, None, List, [], ◌∷◌, ◌++◌, length, drop, get_or, Result, Ok, Err, refl, sym, ◌∙◌, ap, subst, add-one, append_assoc}
use Rattle.std.proofs.Math.Seq.{drop-cons}
use Rattle.std.proofs.lemmas.List.{drop_all, append-nil, map-append}
use Rattle.std.proofs.lemmas.List.Elements.{All-push}
use Rattle.spec_text.specs.Answers.{◌>>=◌}
use Rattle.spec_numbers.specs.Fractions.{Fraction}
use Rattle.spec_numbers.specs.Bounds.{Overflow}
use Rattle.spec_sorts.specs.Terms.{Term}
use Rattle.spec_arithmetic.specs.Forms.{Answer}
use Rattle.spec_arithmetic.specs.Contradictions as sums
use Rattle.spec_arithmetic.specs.Contradictions.{negation_of, given, too_wide, malformed, paired, paired_with, numbered, parts_of, as_failure, judged_parts, judged_pairs}
use Rattle.ratio128.specs.declared.ratio.Ratio.{Ratio}
use Rattle.ratio128.specs.Meant.{fraction, overflow}
use Rattle.term_core.specs.declared.ids.TermId.{TermId}
use Rattle.term_core.specs.Tables.{TableView, term_at, clause_at}
use Rattle.linear_form.specs.declared.arith_fault.ArithFault.{ArithFault}
use Rattle.linear_form.specs.declared.coeff.Coeff.{Coeff}
use Rattle.linear_form.specs.declared.coeff.Coeff.TheVariants as coeffs
use Rattle.linear_form.specs.declared.literals.Negation.{Negation}
use Rattle.linear_form.specs.declared.stop.FormStop.{FormStop}
use Rattle.linear_form.specs.declared.stop.FormStop.TheVariants as stops
use Rattle.linear_form.specs.declared.sums.WeightedForm.{WeightedForm}
use Rattle.linear_form.specs.Coefficients.{coefficient_meant, coefficients_meant}
use Rattle.linear_form.specs.Literals.{one_meant, relation_meant}
use Rattle.linear_form.specs.Making.{FailsBy, with_front}
use Rattle.linear_form.specs.Meant.{FormView, form_meant}
use Rattle.linear_form.specs.Sums.{part_meant, parts_meant, HasVariablesOf, HaveVariablesOf, difference_meant, fault_by, JudgesSum}
use Rattle.linear_form.specs.Clauses.{pair_meant, pairs_meant, HasPairIn, HavePairsIn, number_meant, numbered_meant, HasNumberIn, HaveNumbersIn, paired_one, option_front, Pushes, judged_numbers}
use Rattle.linear_form.proofs.Indexes.{left_at}

front_more : {A : Type 0} (done : List A) (x : A) (a : Answer (List A)) → with_front done (a >>= λ r. Ok (x ∷ r)) ≡ with_front (done ++ x ∷ []) a
unfolding ◌>>=◌
front_more done x (Ok r) = ap Ok (sym (append_assoc done (x ∷ []) r))
front_more done x (Err w) = refl

left_from : {A : Type 0} (xs : List A) (at : ℕ) (d : A) → at < length xs → drop at xs ≡ get_or xs at d ∷ drop (at + 1) xs
left_from xs at d lt = drop-cons xs at d lt ∙ (λ i. get_or xs at d ∷ drop (sym (add-one at) i) xs)

-- numbers of arguments
module _ (t : TableView) (done : List (Negation × Ratio)) (ps : List (Negation × Coeff)) (at : ℕ) where
  abbrev so_far : List (Negation × Ratio) → ℕ → Answer (List (sums.Negation × Fraction))
  so_far made k = with_front (numbered_meant t made) (numbered (pairs_meant t (drop k ps)))

  abbrev rest_from : Negation × Coeff → Answer (List (sums.Negation × Fraction))
  rest_from p = with_front (numbered_meant t done) (numbered (pair_meant t p ∷ pairs_meant t (drop (at + 1) ps)))

  more_by : (p : Negation × Coeff) (new : List (Negation × Ratio)) → Pushes p (let r : Result (Unit {0}) FormStop = Ok tt in r) done new → rest_from p ≡ so_far new (at + 1)
  unfolding numbered
  more_by (n, coeffs.Number k) new g =
      front_more (numbered_meant t done) (one_meant t n, fraction k) (numbered (pairs_meant t (drop (at + 1) ps)))
      ∙ ap (λ l. with_front l (numbered (pairs_meant t (drop (at + 1) ps)))) (sym (map-append (number_meant t) done ((n, k) ∷ [])) ∙ ap (numbered_meant t) (sym g))
  more_by (n, coeffs.Wide w) new g = absurd g
  more_by (n, coeffs.Shape) new g = ap (λ l. with_front (numbered_meant t l) (numbered (pairs_meant t (drop (at + 1) ps)))) (sym g)

  fails_by : (p : Negation × Coeff) (new : List (Negation × Ratio)) (s : FormStop) (a : Answer (List (sums.Negation × Fraction))) → Pushes p (Err s) done new → a ≡ rest_from p → FailsBy a s
  unfolding numbered
  fails_by (n, coeffs.Wide w) new (stops.Wide v) a g k = k ∙ ap (λ w. Err (overflow w)) g
  fails_by (n, coeffs.Number q) new (stops.Wide v) a g k = absurd g
  fails_by (n, coeffs.Shape) new (stops.Wide v) a g k = absurd g
  fails_by p new stops.Memory a g k = tt

  sides_by : (p : Negation × Coeff) (new : List (Negation × Ratio)) → Pushes p (let r : Result (Unit {0}) FormStop = Ok tt in r) done new → HasPairIn t p → HaveNumbersIn t done → HaveNumbersIn t new
  sides_by (n, coeffs.Number k) new g here there = subst (HaveNumbersIn t) (sym g) (All-push (HasNumberIn t) done (n, k) there here)
  sides_by (n, coeffs.Wide w) new g here there = absurd g
  sides_by (n, coeffs.Shape) new g here there = subst (HaveNumbersIn t) (sym g) there

  module _ (p : Negation × Coeff) (lt : at < length ps) (is : p ≡ get_or ps at p) (new : List (Negation × Ratio)) where
    next : so_far done at ≡ rest_from p
    next = ap (λ l. with_front (numbered_meant t done) (numbered (pairs_meant t l))) (left_at ps at p lt is)

    pub number_more : Pushes p (let r : Result (Unit {0}) FormStop = Ok tt in r) done new → so_far done at ≡ so_far new (at + 1)
    number_more g = next ∙ more_by p new g

    pub number_fails : (s : FormStop) (a : Answer (List (sums.Negation × Fraction))) → Pushes p (Err s) done new → a ≡ so_far done at → FailsBy a s
    number_fails s a g k = fails_by p new s a g (k ∙ next)

    pub number_sides : Pushes p (let r : Result (Unit {0}) FormStop = Ok tt in r) done new → HavePairsIn t ps → HaveNumbersIn t done → HaveNumbersIn t new
    number_sides g all there = sides_by p new g (subst (HasPairIn t) (sym is) (all at p lt)) there

  pub number_end : length ps ≤ at → so_far done at ≡ Ok (numbered_meant t done)
  unfolding numbered
  number_end h = ap (λ l. with_front (numbered_meant t done) (numbered (pairs_meant t l))) (drop_all at ps h) ∙ ap Ok (append-nil (numbered_meant t done))

-- what literals bring
module _ (t : TableView) (done : List WeightedForm) (ps : List (Negation × Ratio)) (at : ℕ) where
  module _ (p : Negation × Ratio) (lt : at < length ps) (is : p ≡ get_or ps at p) where
    abbrev rest : Answer (List sums.Part)
    rest = parts_of (numbered_meant t (drop (at + 1) ps))

    part_next : with_front (parts_meant t done) (parts_of (numbered_meant t (drop at ps)))
        ≡ with_front (parts_meant t done) (difference_meant t p.0 >>= λ f. rest >>= λ r. Ok (record { relation = relation_meant p.0.relation; form = f; weight = fraction p.1 } ∷ r))
    unfolding parts_of
    part_next = ap (λ l. with_front (parts_meant t done) (parts_of (numbered_meant t l))) (left_at ps at p lt is)

    pub part_more : (new : List WeightedForm) (f : FormView) → new ≡ done ++ (let q : WeightedForm = record { relation = p.0.relation; form = f; weight = p.1 } in q) ∷ [] → difference_meant t p.0 ≡ Ok (form_meant t f)
        → with_front (parts_meant t done) (parts_of (numbered_meant t (drop at ps))) ≡ with_front (parts_meant t new) rest
    unfolding ◌>>=◌
    part_more new f g k =
        let q : WeightedForm = record { relation = p.0.relation; form = f; weight = p.1 } in
        part_next
        ∙ ap (λ a. with_front (parts_meant t done) (a >>= λ f. rest >>= λ r. Ok (record { relation = relation_meant p.0.relation; form = f; weight = fraction p.1 } ∷ r))) k
        ∙ front_more (parts_meant t done) (part_meant t q) rest
        ∙ ap (λ l. with_front l rest) (sym (map-append (part_meant t) done (q ∷ [])) ∙ ap (parts_meant t) (sym g))

    pub part_err : (w : Overflow) → difference_meant t p.0 ≡ Err w → with_front (parts_meant t done) (parts_of (numbered_meant t (drop at ps))) ≡ Err w
    unfolding ◌>>=◌
    part_err w k = part_next ∙ ap (λ a. with_front (parts_meant t done) (a >>= λ f. rest >>= λ r. Ok (record { relation = relation_meant p.0.relation; form = f; weight = fraction p.1 } ∷ r))) k

  pub part_end : length ps ≤ at → with_front (parts_meant t done) (parts_of (numbered_meant t (drop at ps))) ≡ Ok (parts_meant t done)
  unfolding parts_of
  part_end h = ap (λ l. with_front (parts_meant t done) (parts_of (numbered_meant t l))) (drop_all at ps h) ∙ ap Ok (append-nil (parts_meant t done))

pub part_variables : (t : TableView) (done new : List WeightedForm) (q : WeightedForm) → new ≡ done ++ q ∷ [] → HaveVariablesOf t done → HasVariablesOf t q → HaveVariablesOf t new
part_variables t done new q e all here = subst (HaveVariablesOf t) (sym e) (All-push (HasVariablesOf t) done q all here)

-- a clause with its arguments
rest_none : (o : Option sums.Negation) (c : sums.Coefficient) → paired_with o c None ≡ None
rest_none (Some n) (given k) = refl
rest_none (Some n) (too_wide w) = refl
rest_none (Some n) malformed = refl
rest_none None (given k) = refl
rest_none None (too_wide w) = refl
rest_none None malformed = refl

one_none : (o : Option sums.Negation) (c : sums.Coefficient) (rest : Option (List (sums.Negation × sums.Coefficient))) → None ≡ paired_one o c → paired_with o c rest ≡ None
one_none (Some n) (given k) rest e = cc
one_none (Some n) (too_wide w) rest e = cc
one_none (Some n) malformed rest e = refl
one_none None c rest e = refl

one_more : (done : List (sums.Negation × sums.Coefficient)) (o : Option sums.Negation) (c : sums.Coefficient) (p : sums.Negation × sums.Coefficient) (rest : Option (List (sums.Negation × sums.Coefficient)))
    → Some p ≡ paired_one o c → option_front done (paired_with o c rest) ≡ option_front (done ++ p ∷ []) rest
one_more done (Some n) (given k) p (Some r) e = let s : p ≡ (n, given k) = cc in ap Some ((λ i. done ++ sym s i ∷ r) ∙ sym (append_assoc done (p ∷ []) r))
one_more done (Some n) (given k) p None e = refl
one_more done (Some n) (too_wide w) p (Some r) e = let s : p ≡ (n, too_wide w) = cc in ap Some ((λ i. done ++ sym s i ∷ r) ∙ sym (append_assoc done (p ∷ []) r))
one_more done (Some n) (too_wide w) p None e = refl
one_more done (Some n) malformed p rest e = cc
one_more done None c p rest e = cc

pub other_lengths : (ts : List Term) (cs : List sums.Coefficient) → (length ts ≡ length cs → ⊥) → paired ts cs ≡ None
unfolding paired
other_lengths [] [] h = absurd (h refl)
other_lengths [] (c ∷ cs) h = refl
other_lengths (t ∷ ts) [] h = refl
other_lengths (t ∷ ts) (c ∷ cs) h = ap (paired_with (negation_of true t) c) (other_lengths ts cs (λ e. h (ap suc e))) ∙ rest_none (negation_of true t) c

module _ (t : TableView) (done : List (Negation × Coeff)) (ids : List TermId) (ks : List Coeff) (at : ℕ) where
  abbrev pairs_from : List (sums.Negation × sums.Coefficient) → ℕ → Option (List (sums.Negation × sums.Coefficient))
  pairs_from made k = option_front made (paired (clause_at t (drop k ids)) (coefficients_meant (drop k ks)))

  module _ (d : TermId) (k : Coeff) (lt : at < length ids) (more : at < length ks) (is : k ≡ get_or ks at k) where
    pair_next : pairs_from (pairs_meant t done) at
        ≡ option_front (pairs_meant t done) (paired_with (negation_of true (term_at t (get_or ids at d))) (coefficient_meant k) (paired (clause_at t (drop (at + 1) ids)) (coefficients_meant (drop (at + 1) ks))))
    unfolding paired
    pair_next = λ i. option_front (pairs_meant t done) (paired (clause_at t (left_from ids at d lt i)) (coefficients_meant (left_at ks at k more is i)))

    pub pair_more : (new : List (Negation × Coeff)) (p : Negation × Coeff) → new ≡ done ++ p ∷ [] → Some (pair_meant t p) ≡ paired_one (negation_of true (term_at t (get_or ids at d))) (coefficient_meant k)
        → pairs_from (pairs_meant t done) at ≡ pairs_from (pairs_meant t new) (at + 1)
    pair_more new p e q =
        pair_next ∙ one_more (pairs_meant t done) (negation_of true (term_at t (get_or ids at d))) (coefficient_meant k) (pair_meant t p) (paired (clause_at t (drop (at + 1) ids)) (coefficients_meant (drop (at + 1) ks))) q
        ∙ ap (λ l. pairs_from l (at + 1)) (sym (map-append (pair_meant t) done (p ∷ [])) ∙ ap (pairs_meant t) (sym e))

    pub pair_none : None ≡ paired_one (negation_of true (term_at t (get_or ids at d))) (coefficient_meant k) → pairs_from (pairs_meant t done) at ≡ None
    pair_none q =
        pair_next ∙ ap (option_front (pairs_meant t done)) (one_none (negation_of true (term_at t (get_or ids at d))) (coefficient_meant k) (paired (clause_at t (drop (at + 1) ids)) (coefficients_meant (drop (at + 1) ks))) q)

  pub pair_end : length ids ≤ at → length ks ≤ at → pairs_from (pairs_meant t done) at ≡ Some (pairs_meant t done)
  unfolding paired
  pair_end h g = (λ i. option_front (pairs_meant t done) (paired (clause_at t (drop_all at ids h i)) (coefficients_meant (drop_all at ks g i)))) ∙ ap Some (append-nil (pairs_meant t done))

pub pair_sides : (t : TableView) (done new : List (Negation × Coeff)) (p : Negation × Coeff) → new ≡ done ++ p ∷ [] → HavePairsIn t done → HasPairIn t p → HavePairsIn t new
pair_sides t done new p e all here = subst (HavePairsIn t) (sym e) (All-push (HasPairIn t) done p all here)

-- the judgement, level by level
pub parts_judged : (ns : List (sums.Negation × Fraction)) (qs : List sums.Part) (r : Result (Unit {0}) ArithFault) → parts_of ns ≡ Ok qs → JudgesSum (judged_parts qs) r → JudgesSum (judged_numbers ns) r
unfolding judged_numbers ◌>>=◌
parts_judged ns qs r e h = subst (λ a. JudgesSum a r) (sym (ap (λ a. as_failure a >>= λ qs. judged_parts qs) e)) h

pub parts_fail : (ns : List (sums.Negation × Fraction)) (s : FormStop) → FailsBy (parts_of ns) s → JudgesSum (judged_numbers ns) (Err (fault_by s))
unfolding judged_numbers ◌>>=◌
parts_fail ns (stops.Wide w) e = ap (λ a. as_failure a >>= λ qs. judged_parts qs) e
parts_fail ns stops.Memory e = tt

pub numbers_judged : (ps : List (sums.Negation × sums.Coefficient)) (ns : List (sums.Negation × Fraction)) (r : Result (Unit {0}) ArithFault) → numbered ps ≡ Ok ns → JudgesSum (judged_numbers ns) r → JudgesSum (judged_pairs (Some ps)) r
unfolding judged_numbers ◌>>=◌
numbers_judged ps ns r e h = subst (λ a. JudgesSum a r) (sym (ap (λ a. as_failure a >>= λ ns. as_failure (parts_of ns) >>= λ qs. judged_parts qs) e)) h

pub numbers_fail : (ps : List (sums.Negation × sums.Coefficient)) (s : FormStop) → FailsBy (numbered ps) s → JudgesSum (judged_pairs (Some ps)) (Err (fault_by s))
unfolding ◌>>=◌
numbers_fail ps (stops.Wide w) e = ap (λ a. as_failure a >>= λ ns. as_failure (parts_of ns) >>= λ qs. judged_parts qs) e
numbers_fail ps stops.Memory e = tt
