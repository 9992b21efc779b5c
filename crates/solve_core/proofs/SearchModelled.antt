-- That a saturated search has a model: its truths and classes are those of one.
use Rattle.std.proofs.Common.{◌≡◌, ◌<◌, ℕ, List, length, get_or, map, All, Contains, sym, ap, ◌∙◌, subst}
use Rattle.std.specs.Prelude.{◌↔◌}
use Rattle.std.proofs.lemmas.List.{length-map, get_or-map}
use Rattle.spec_numbers.specs.Fractions.{Fraction, IsReduced}
use Rattle.spec_sorts.specs.Terms.{Apply, Term, app}
use Rattle.spec_sorts.specs.Literals.{Literal}
use Rattle.spec_rules.specs.Truths.{Truths}
use Rattle.spec_arithmetic.specs.Numbers.{number_at, IsLinear}
use Rattle.spec_simplex.specs.Numbers.{HoldsAt}
use Rattle.spec_equality.specs.Congruence.{IsCongruent, IsFine}
use Rattle.spec_derivations.specs.Problems.{Problem, known_terms}
use Rattle.spec_derivations.specs.Orders.{whole_terms}
use Rattle.spec_valuations.specs.Classes.{class_in, AreShared}
use Rattle.spec_valuations.specs.Saturation.{TheoryValues, IsSaturatedWithNumbers, IsSaturatedOnNumbers}
use Rattle.term_core.specs.declared.ids.TermId.{TermId}
use Rattle.term_core.specs.Tables.{TableView, AreDifferent, term_at, literal_at, clause_at}
use Rattle.clause_literals.specs.Literals.{IsConsistent}
use Rattle.proof_log.specs.Theories.{TheoryView, terms_watched, literals_held}
use Rattle.congruence_closure.specs.Closure.{TellClasses}
use Rattle.congruence_closure.specs.Listed.{no_term_id}
use Rattle.congruence.specs.Views.{AreEqualBy}
use Rattle.search_model.specs.Models.{truths_of, TakeNumbersOf}
use Rattle.search_loop.specs.declared.search.Search.{Search}
use Rattle.search_loop.specs.Rounds.{IsSearch}
use Rattle.search_loop.specs.Asking.{HasSaturated}
use Rattle.solve_core.proofs.SearchMet.{formulas, met, atom_held}

module _ (t : TableView) (differ : AreDifferent t.terms) (x : Search) (v : TheoryView) (agreed : Type 0) (h : HasSaturated t x v agreed) (consistent : IsConsistent x.trail.literals)
    (fine : IsFine (terms_watched t v) (literals_held t v)) (classes : List ℕ) (tell : TellClasses (AreEqualBy t v) x.terms.items classes) (problem : Problem) (earlier : List (List Literal)) (s : IsSearch t problem earlier x) where
  abbrev ids : List TermId
  ids = x.terms.items

  abbrev terms : List Term
  terms = clause_at t x.terms.items

  abbrev held : List Literal
  held = map (literal_at t) x.trail.literals

  abbrev truths : Truths
  truths = truths_of t x.trail.literals

  -- classes by places, and numbers by which the literals hold
  module _ (place : (ts : List Term) (ns : List ℕ) (u : Term) → Contains ts u → (k : ℕ) × (k < length ts) × (get_or ts k u ≡ u) × (class_in ts ns u ≡ get_or ns k 0))
      (linear_in : (p : Problem) → All IsLinear (known_terms p) → (u : Term) → Contains (whole_terms p) u → IsLinear u)
      (number : Term → Fraction) (reduced : (u : Term) → IsReduced (number u)) (kept : All (HoldsAt number) held) where
    pub related : (a b : Term) → Contains terms a → Contains terms b → (class_in terms classes a ≡ class_in terms classes b) ↔ IsCongruent terms held a b
    related a b i j =
        let k = place terms classes a i in
        let m = place terms classes b j in
        let short : (n : ℕ) → n < length terms → n < length ids = λ n lt. rw length-map at lt in
        let term : (n : ℕ) (u : Term) → n < length terms → get_or terms n u ≡ u → term_at t (get_or ids n no_term_id) ≡ u
        = λ n u lt e. sym (get_or-map (term_at t) ids n no_term_id u (short n lt)) ∙ e in
        let both = tell k.0 m.0 (short k.0 k.1) (short m.0 m.1) in
        let terms_are : terms_watched t v ≡ terms = ap (clause_at t) h.asked.terms in
        let held_are : literals_held t v ≡ held = ap (map (literal_at t)) h.held in (
          λ e. subst (λ (ts : List Term). IsCongruent ts held a b) terms_are (subst (λ (ls : List Literal). IsCongruent (terms_watched t v) ls a b) held_are
              (subst (λ (w : Term). IsCongruent (terms_watched t v) (literals_held t v) w b) (term k.0 a k.1 k.2) (subst (IsCongruent (terms_watched t v) (literals_held t v) (term_at t (get_or ids k.0 no_term_id))) (term m.0 b m.1 m.2)
              (both.0 (sym k.3 ∙ e ∙ m.3))))),
          λ q. k.3 ∙ both.1 (subst (λ (w : Term). IsCongruent (terms_watched t v) (literals_held t v) w (term_at t (get_or ids m.0 no_term_id))) (sym (term k.0 a k.1 k.2)) (subst (IsCongruent (terms_watched t v) (literals_held t v) a) (sym (term m.0 b m.1 m.2))
              (subst (λ (ls : List Literal). IsCongruent (terms_watched t v) ls a b) (sym held_are) (subst (λ (ts : List Term). IsCongruent ts held a b) (sym terms_are) q)))) ∙ sym m.3,
        )

    -- what the search and its theories give each term
    abbrev pub given : TheoryValues
    given = record { truths = truths; class = class_in terms classes; number = number }

    -- where it is saturated, whether its theories agree or not
    pub saturated_apart : IsSaturatedWithNumbers t.symbols problem terms held given
    saturated_apart = record {
      formulas = formulas t differ x v agreed h consistent problem earlier s;
      listed = s.listed.each;
      only = s.listed.only;
      linear = λ u i. linear_in problem s.answered u (s.listed.only u i);
      met = met t differ x v agreed h consistent problem earlier s;
      truths = atom_held t differ x v agreed h consistent problem earlier s;
      fine = subst (λ (ts : List Term). IsFine ts held) (ap (clause_at t) h.asked.terms) (subst (IsFine (terms_watched t v)) (ap (map (literal_at t)) h.held) fine);
      classes = related;
      reduced = reduced;
      kept = kept;
    }

    -- where they agree on shared terms
    module _ (shared : List Term) (shares : AreShared terms shared) (heads : (u : Term) → Contains shared u → number u ≡ number_at number u)
        (agree : (u w : Term) → Contains shared u → Contains shared w → (number u ≡ number w) ↔ (class_in terms classes u ≡ class_in terms classes w)) where
      pub taken : TakeNumbersOf number terms
      taken f ts u i j e = (h.ready.atoms_are.closed (app (Apply f) ts) i u j, heads u (shares.arguments f ts u i j e))

      pub saturated_here : IsSaturatedOnNumbers t.symbols problem terms held given
      saturated_here = record {
        saturated_here = saturated_apart;
        shared = shared;
        shares = shares;
        agree = record {
          same = λ a b i j.
              let both = agree a b i j in
              (λ e. both.0 (heads a i ∙ e ∙ sym (heads b j)), λ e. sym (heads a i) ∙ both.1 e ∙ heads b j);
        };
      }
