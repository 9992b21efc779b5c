-- Where a search over propositional terms is saturated, the interpretation that its truths give is a model.
use Rattle.std.proofs.Common.{◌≡◌, ℕ, Bool, true, false, List, [], ◌∷◌, map, length, get_or, inl, inr, All, Contains, refl, sym, ap, ◌∙◌, subst, arith}
use Rattle.std.specs.Prelude.{flat_map}
use Rattle.std.proofs.lemmas.Bool.{false≢true}
use Rattle.std.proofs.lemmas.List.Elements.{All-contains, Contains-append_left, Contains-append_right, Contains-append_cases, Contains-get_or}
use Rattle.spec_text.proofs.Members.{to_image, in_flat}
use Rattle.spec_numbers.specs.Fractions.{Fraction}
use Rattle.spec_sorts.specs.Terms.{Truth, Number, Symbol, Less, AtMost, Minus, Plus, Times, Divide, Literal, Parameter, Apply, Head, Term, Terms, app, nil, cons, list_of, sort_of, sorts_of, all_same, head_takes}
use Rattle.spec_sorts.specs.Values.{truth, HasSort, Interpretation, Interprets}
use Rattle.spec_sorts.specs.TermValues.{value_at}
use Rattle.spec_sorts.specs.WellSorted.{IsWellSorted}
use Rattle.spec_sorts.proofs.General.{sorts_listed}
use Rattle.spec_sorts.proofs.LeastSubterms.{least_of}
use Rattle.spec_sorts.proofs.WellSorted.{less_takes, at_most_takes}
use Rattle.spec_rules.specs.Truths.{Truths, term_true_by}
use Rattle.spec_derivations.specs.Problems.{Problem, terms_of_problem}
use Rattle.spec_derivations.specs.Base.{clauses_of, choice_clauses, defining_clauses}
use Rattle.spec_derivations.specs.Orders.{order_clauses, ordered_terms, whole_terms, whole_clauses_of}
use Rattle.spec_derivations.proofs.Below.{head_fits, head_over}
use Rattle.spec_derivations.proofs.Formulas.{is_core}
use Rattle.spec_derivations.proofs.Obeying.{IsMet, number_differs}
use Rattle.spec_derivations.proofs.SearchTerms.{subterms_spoken}
use Rattle.spec_derivations.proofs.OrderedTerms.{searched_whole, whole_sorted}
use Rattle.spec_valuations.specs.Tables.{Valuation, IsModelBy, IsFunctional, Obeys, AreListed, IsValuation}
use Rattle.spec_valuations.specs.Classes.{value_in, value_by}
use Rattle.spec_valuations.specs.Propositional.{IsPropositional, IsPropositionallySaturated}
use Rattle.spec_valuations.proofs.Meeting.{value_is, no_parameter}
use Rattle.spec_valuations.proofs.Interpreting.{interprets}
use Rattle.spec_valuations.proofs.Formulas.{core_joins, formula_obeys}
use Rattle.spec_valuations.proofs.Saturating.{all_truths, alone}

-- no arguments
bare_nil : (ts : Terms) → list_of ts ≡ [] → ts ≡ nil
bare_nil nil e = refl
bare_nil (cons t ts) e = absurd (omega (arith, ap length e))

module _ (symbols : List Symbol) (p : Problem) (terms : List Term) (v : Truths) (r : IsPropositionallySaturated symbols p terms v) where
  abbrev is_so : Term → Bool
  is_so t = term_true_by v t

  propositional : (t : Term) → Contains terms t → IsPropositional t
  propositional t c = All-contains IsPropositional terms t r.propositional c

  sorted : (t : Term) → Contains terms t → IsWellSorted symbols [] t
  sorted t c = whole_sorted symbols p r.formulas t (r.only t c)

  listed : AreListed symbols terms
  listed = record {
    arguments = λ h ts c u u_in. r.listed u ((least_of (ordered_terms p)).closed (app h ts) (r.only (app h ts) c) u u_in);
    takes = λ h ts c. ap (head_takes [] h) (sorts_listed ts) ∙ head_fits symbols [] h ts (sorted (app h ts) c);
    declared = λ s ts c. head_over symbols [] (Apply s) ts (sorted (app (Apply s) ts) c);
  }

  is_met : (t : Term) → Contains terms t → IsMet v t
  is_met t t_in c c_in = r.met c (Contains-append_right (map (λ x. x ∷ []) p.asserted) (flat_map whole_clauses_of (whole_terms p)) c
      (in_flat whole_clauses_of (whole_terms p) t c (r.only t t_in)
      (Contains-append_left (defining_clauses t) (order_clauses t) c (Contains-append_left (clauses_of t) (choice_clauses t) c c_in))))

  module _ (point : Term → Fraction) (class : Term → ℕ) where
    abbrev by : Valuation
    by = value_by is_so point class

    each_truth_in : (h : Head) (ts : Terms) → Contains terms (app h ts) → all_same Truth (sorts_of ts) ≡ true
    each_truth_in h ts c = all_truths ts (λ u d. (propositional u (listed.arguments h ts c u d)).sort)

    connected : (h : Head) (ts : Terms) → Contains terms (app h ts) → is_core h ≡ true → Obeys by (app h ts)
    connected h ts c core = formula_obeys v point class (app h ts) (core_joins h ts core (listed.takes h ts c) (each_truth_in h ts c)) (is_met (app h ts) c)

    -- none is a number
    no_number : (t : Term) → Contains terms t → sort_of t ≡ Number → {A : Type 0} → A
    no_number t c e = absurd (number_differs (sym e ∙ (propositional t c).sort))

    obeys : (t : Term) → Contains terms t → Obeys by t
    unfolding sort_of
    obeys (app (Apply s) ts) c = tt
    obeys (app (Parameter k s) ts) c = absurd (no_parameter k s (sorts_of ts) (listed.takes (Parameter k s) ts c))
    obeys (app Minus ts) c = no_number (app Minus ts) c refl
    obeys (app Plus ts) c = no_number (app Plus ts) c refl
    obeys (app Times ts) c = no_number (app Times ts) c refl
    obeys (app Divide ts) c = no_number (app Divide ts) c refl
    obeys (app (Literal q) ts) c = no_number (app (Literal q) ts) c refl
    obeys (app Less ts) c = absurd (false≢true (sym (ap (all_same Truth) (less_takes (sorts_of ts) (listed.takes Less ts c))) ∙ each_truth_in Less ts c))
    obeys (app AtMost ts) c = absurd (false≢true (sym (ap (all_same Truth) (at_most_takes (sorts_of ts) (listed.takes AtMost ts c))) ∙ each_truth_in AtMost ts c))
    obeys (app h ts) c = connected h ts c refl

    -- equal constants are one term
    functional : IsFunctional by terms
    functional s ts us c d e = ap (λ xs. by (app (Apply s) xs)) (bare_nil ts (propositional (app (Apply s) ts) c).bare ∙ sym (bare_nil us (propositional (app (Apply s) us) d).bare))

    valuation : IsValuation by terms
    valuation = record {
      sorts = λ t c. subst (λ s. HasSort s (value_in s (is_so t) (point t) (class t))) (sym (propositional t c).sort) tt;
      functional = functional;
      obeys = obeys;
    }

    module _ (i : Interpretation) (model : IsModelBy i by symbols terms) where
      pub interpreted : Interprets i symbols
      interpreted = interprets i by symbols terms listed valuation model

      pub valued : (t : Term) → Contains terms t → value_at i [] t ≡ by t
      valued = value_is i by symbols terms listed valuation model

      -- a term of the check that is true has the value true
      true_valued : (t : Term) → Contains (terms_of_problem p) t → is_so t ≡ true → value_at i [] t ≡ truth true
      true_valued t t_in e =
          let there = r.listed t (searched_whole p t (subterms_spoken p t ((least_of (terms_of_problem p)).there t t_in))) in
          valued t there ∙ ap (λ s. value_in s (is_so t) (point t) (class t)) (propositional t there).sort ∙ ap truth e

      asserted_true : (t : Term) → Contains p.asserted t → is_so t ≡ true
      asserted_true t t_in = alone v t (r.met (t ∷ []) (Contains-append_left (map (λ x. x ∷ []) p.asserted) (flat_map whole_clauses_of (whole_terms p)) (t ∷ []) (to_image (λ x. x ∷ []) p.asserted t t_in)))

      pub asserted_valued : All (λ t. value_at i [] t ≡ truth true) p.asserted
      asserted_valued k d lt =
          let t = get_or p.asserted k d in
          let t_in = Contains-get_or p.asserted k d lt in
          true_valued t (Contains-append_left p.asserted p.assumed t t_in) (asserted_true t t_in)

      pub all_valued : All (λ t. term_true_by v t ≡ true) p.assumed → All (λ t. value_at i [] t ≡ truth true) (terms_of_problem p)
      all_valued assumed k d lt = go (get_or (terms_of_problem p) k d) (Contains-get_or (terms_of_problem p) k d lt)
        where
          go : (t : Term) → Contains (terms_of_problem p) t → value_at i [] t ≡ truth true
          go t t_in = true_valued t t_in (elim (Contains-append_cases p.asserted p.assumed t t_in) [
            | inl own ↦ asserted_true t own
            | inr other ↦ All-contains (λ x. term_true_by v x ≡ true) p.assumed t assumed other
          ])
