-- Base clauses are true where their terms are, which are formulas over the symbols of the interpretation.
use Rattle.std.proofs.Common.{◌≡◌, ℕ, zero, suc, Bool, true, false, ◌&&◌, ◌||◌, List, [], ◌∷◌, map, get_or, All, Contains, inl, inr, refl, sym, ap, subst, if◌then◌else◌}
use Rattle.std.specs.Prelude.{flat_map, slice_index_or}
use Rattle.std.proofs.lemmas.Bool.{false≢true, and_parts}
use Rattle.std.proofs.lemmas.List.Elements.{All-nil, All-cons, All-head, All-tail, All-contains, All-map, Contains-get_or, Contains-append_left, Contains-append_cases}
use Rattle.spec_text.specs.Trees.{none as no_arguments}
use Rattle.spec_text.proofs.Members.{first, cases, none, to_image, from_flat, from_image}
use Rattle.spec_sorts.specs.Terms.{Sort, Truth, Symbol, False, Not, Term, app, nil, cons, list_of, no_term, negated, sort_of, all_same, head_takes, same_head}
use Rattle.spec_sorts.specs.WellSorted.{IsWellSorted, IsFormulaOver}
use Rattle.spec_sorts.specs.Values.{Interpretation, truth, is_true}
use Rattle.spec_sorts.specs.Literals.{Clause}
use Rattle.spec_sorts.specs.TermValues.{value_at}
use Rattle.spec_sorts.proofs.SameTerms.{one_head}
use Rattle.spec_sorts.proofs.WellSorted.{before}
use Rattle.spec_proofs.specs.declared.Rule.{Rule}
use Rattle.spec_proofs.specs.declared.Rule.TheVariants as rules
use Rattle.spec_proofs.specs.declared.ArgumentLiteral.{ArgumentLiteral}
use Rattle.spec_proofs.specs.declared.Rest.{Rest}
use Rattle.spec_proofs.specs.declared.Rest.TheVariants.{Nothing, One, Two, AnyOne, Each, Innermost}
use Rattle.spec_rules.specs.Clauses.{clause_true}
use Rattle.spec_rules.specs.Rules.{IsBy, IsRight}
use Rattle.spec_rules.specs.Schemes.{Scheme, schemes, states, kind_of, signed_term, side_of, innermost, rests_of, is_formula_of, clauses_by}
use Rattle.spec_derivations.specs.Problems.{Problem, terms_of_problem, subterms_in}
use Rattle.spec_derivations.specs.Base.{clauses_of, base_clauses}
use Rattle.spec_derivations.proofs.Below.{subterms_have, argument_sorted, head_fits}
use Rattle.spec_derivations.proofs.Formulas.{each_truth, is_core, core_truth, core_schemes}

-- the rules of the schemes, in their order
abbrev stating : List Rule
stating = rules.True ∷ rules.False ∷ rules.AndPos ∷ rules.AndNeg ∷ rules.OrPos ∷ rules.OrNeg ∷ rules.ImpliesPos ∷ rules.ImpliesNeg1 ∷ rules.ImpliesNeg2 ∷ rules.EquivPos1 ∷ rules.EquivPos2 ∷ rules.EquivNeg1 ∷ rules.EquivNeg2 ∷ rules.XorPos1 ∷ rules.XorPos2 ∷ rules.XorNeg1 ∷ rules.XorNeg2 ∷ rules.ItePos1 ∷ rules.ItePos2 ∷ rules.IteNeg1 ∷ rules.IteNeg2 ∷ rules.NotNot ∷ []

-- each scheme of the table has its rule
pub has_rule : (s : Scheme) → Contains schemes s → (r : Rule) × (kind_of r ≡ states s)
has_rule s h =
    let each : map kind_of stating ≡ map states schemes = refl in
    let x = from_image kind_of stating (states s) (subst (λ ks. Contains ks (states s)) (sym each) (to_image states schemes s h)) in
    (x.0, x.2)

module _ (symbols : List Symbol) where
  -- a formula
  abbrev Is : Term → Type 0
  Is t = IsFormulaOver symbols t

  negated_sort : (t : Term) → sort_of (negated t) ≡ Truth
  unfolding sort_of
  negated_sort t = refl

  -- the negation of one is one
  signed_formula : (p : Bool) (t : Term) → Is t → Is (signed_term p t)
  signed_formula true t h = h
  signed_formula false t h = record { term = before symbols [] Not (t ∷ []) (ap (λ s. head_takes [] Not (s ∷ [])) h.sort) tt (h.term, tt); sort = negated_sort t }

  no_formula : Is no_term
  unfolding sort_of
  no_formula = record { term = before symbols [] False [] refl tt tt; sort = refl }

  -- so is an argument of any place
  placed_formula : (ts : List Term) (n : ℕ) → All Is ts → Is (slice_index_or ts n no_term)
  placed_formula [] n h = no_formula
  placed_formula (t ∷ ts) zero h = All-head Is t ts h
  placed_formula (t ∷ ts) (suc n) h = placed_formula ts n (All-tail Is t ts h)

  side_formula : (ts : List Term) (x : ArgumentLiteral) → All Is ts → Is (side_of ts x)
  side_formula ts x h = signed_formula x.positive (slice_index_or ts x.place no_term) (placed_formula ts x.place h)

  only_formula : (t : Term) → Is t → All Is (t ∷ [])
  only_formula t h = All-cons Is t [] h (All-nil Is)

  same_clause : (ls ms : Clause) → Contains (ls ∷ []) ms → All Is ls → All Is ms
  same_clause ls ms h each = elim (cases ls [] ms h) [ inl e ↦ subst (All Is) e each | inr x ↦ absurd (none ms x) ]

  -- what a formula negates is one
  negated_formula : (t : Term) → Is (negated t) → Is t
  negated_formula t h = record {
    term = argument_sorted symbols [] (negated t) h.term t (first t []);
    sort = bare (sort_of t) (head_fits symbols [] Not (cons t nil) h.term);
  }
    where
      bare : (s : Sort) → head_takes [] Not (s ∷ []) ≡ true → s ≡ Truth
      bare Truth e = refl
      bare s e = absurd (false≢true e)

  innermost_formula : (ts : List Term) → All Is ts → (ls : Clause) → Contains (innermost ts) ls → All Is ls
  innermost_formula (app Not (cons t nil) ∷ []) each ls h = same_clause (t ∷ []) ls h (only_formula t (negated_formula t (All-head Is (negated t) [] each)))
  innermost_formula _ each ls h = absurd (none ls h)

  -- each term after the first is one
  rest_formula : (r : Rest) (ts : List Term) → All Is ts → (ls : Clause) → Contains (rests_of r ts) ls → All Is ls
  rest_formula Nothing ts each ls h = same_clause [] ls h (All-nil Is)
  rest_formula (One x) ts each ls h = same_clause (side_of ts x ∷ []) ls h (only_formula (side_of ts x) (side_formula ts x each))
  rest_formula (Two x y) ts each ls h = same_clause (side_of ts x ∷ side_of ts y ∷ []) ls h (All-cons Is (side_of ts x) (side_of ts y ∷ []) (side_formula ts x each) (only_formula (side_of ts y) (side_formula ts y each)))
  rest_formula (AnyOne p) ts each ls h =
      let x = from_image (λ t. signed_term p t ∷ []) ts ls h in
      subst (All Is) x.2 (only_formula (signed_term p x.0) (signed_formula p x.0 (All-contains Is ts x.0 each x.1)))
  rest_formula (Each p) ts each ls h = same_clause (map (signed_term p) ts) ls h (All-map Is (signed_term p) ts (λ k d lt. signed_formula p (get_or ts k d) (each k d lt)))
  rest_formula Innermost ts each ls h = innermost_formula ts each ls h

  -- so is each term of a clause that a well-sorted term gives
  given_formula : (s : Scheme) → is_core s.head ≡ true → (t : Term) → IsWellSorted symbols [] t → (c : Clause) → Contains (clauses_by s t) c → All Is c
  given_formula s core (app g ts) sorted c c_in = go (is_formula_of s.head (app g ts)) refl c_in
    where
      sorts : List Sort
      sorts = map sort_of (list_of ts)

      front : Clause → Clause
      front ls = signed_term s.positive (app g ts) ∷ ls

      go : (b : Bool) → is_formula_of s.head (app g ts) ≡ b → Contains (if b then map front (rests_of s.rest (list_of ts)) else []) c → All Is c
      go false e x = absurd (none c x)
      go true e x =
          let parts = and_parts (same_head s.head g && head_takes [] g sorts) (all_same Truth sorts) e in
          let head = and_parts (same_head s.head g) (head_takes [] g sorts) parts.0 in
          let own : is_core g ≡ true = subst (λ h. is_core h ≡ true) (one_head s.head g head.0) core in
          let each : All Is (list_of ts) = λ k d lt. record { term = argument_sorted symbols [] (app g ts) sorted (get_or (list_of ts) k d) (Contains-get_or (list_of ts) k d lt); sort = each_truth (list_of ts) parts.1 (get_or (list_of ts) k d) (Contains-get_or (list_of ts) k d lt) } in
          let first_is : Is (app g ts) = record { term = sorted; sort = core_truth g ts own parts.1 } in
          let y = from_image front (rests_of s.rest (list_of ts)) c x in
          subst (All Is) y.2 (All-cons Is (signed_term s.positive (app g ts)) y.0 (signed_formula s.positive (app g ts) first_is) (rest_formula s.rest (list_of ts) each y.0 y.1))

  module _ (p : Problem) (formulas : All Is (terms_of_problem p)) where
    -- a subterm is well sorted
    pub subterm_sorted : (t : Term) → Contains (subterms_in p) t → IsWellSorted symbols [] t
    subterm_sorted = subterms_have (IsWellSorted symbols []) (argument_sorted symbols []) (terms_of_problem p) (λ k d lt. (formulas k d lt).term)

    -- each term of a base clause is a formula
    pub each_formula : (c : Clause) → Contains (base_clauses p) c → All Is c
    each_formula c c_in = elim (Contains-append_cases (map (λ t. t ∷ []) p.asserted) (flat_map clauses_of (subterms_in p)) c c_in) [
      | inl h ↦ let x = from_image (λ t. t ∷ []) p.asserted c h in subst (All Is) x.2 (only_formula x.0 (All-contains Is (terms_of_problem p) x.0 formulas (Contains-append_left p.asserted p.assumed x.0 x.1)))
      | inr h ↦
          let x = from_flat clauses_of (subterms_in p) c h in
          let y = from_flat (λ s. clauses_by s x.0) schemes c x.2 in
          given_formula y.0 (core_schemes y.0 y.1) x.0 (subterm_sorted x.0 x.1) c y.2
    ]

    module _ (i : Interpretation) (sound : (r : Rule) (c : Clause) → All Is c → IsRight r [] no_arguments c → clause_true i c ≡ true) where
      -- a clause of a subterm
      subterm_holds : (t : Term) → Contains (subterms_in p) t → (c : Clause) → Contains (clauses_of t) c → clause_true i c ≡ true
      subterm_holds t t_in c c_in =
          let x = from_flat (λ s. clauses_by s t) schemes c c_in in
          let by = has_rule x.0 x.1 in
          let right : IsRight by.0 [] no_arguments c = subst (λ k. IsBy k [] no_arguments c) (sym by.1) (t, x.2) in
          sound by.0 c (given_formula x.0 (core_schemes x.0 x.1) t (subterm_sorted t t_in) c x.2) right

      pub each_holds : All (λ t. value_at i [] t ≡ truth true) p.asserted → All (λ c. clause_true i c ≡ true) (base_clauses p)
      each_holds true_terms k d lt = go (get_or (base_clauses p) k d) (Contains-get_or (base_clauses p) k d lt)
        where
          alone : (t : Term) → Contains p.asserted t → clause_true i (t ∷ []) ≡ true
          alone t t_in = ap (λ v. is_true v || false) (All-contains (λ t. value_at i [] t ≡ truth true) p.asserted t true_terms t_in)

          go : (c : Clause) → Contains (base_clauses p) c → clause_true i c ≡ true
          go c c_in = elim (Contains-append_cases (map (λ t. t ∷ []) p.asserted) (flat_map clauses_of (subterms_in p)) c c_in) [
            | inl h ↦ let x = from_image (λ t. t ∷ []) p.asserted c h in subst (λ ls. clause_true i ls ≡ true) x.2 (alone x.0 x.1)
            | inr h ↦ let x = from_flat clauses_of (subterms_in p) c h in subterm_holds x.0 x.1 c x.2
          ]
