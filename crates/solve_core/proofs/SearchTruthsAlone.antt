-- A search over propositional terms: which these are, and that its truths make a model where it is saturated.
use Rattle.std.proofs.Common.{◌≡◌, ◌≢◌, ℕ, true, false, List, [], ◌∷◌, length, map, All, Contains, refl, sym, ap, ◌∙◌, subst, arith}
use Rattle.std.specs.Prelude.{replicate}
use Rattle.std.proofs.lemmas.Bool.{false≢true}
use Rattle.std.proofs.lemmas.List.{length-map}
use Rattle.std.proofs.lemmas.List.Elements.{All-contains}
use Rattle.spec_text.proofs.Members.{none}
use Rattle.spec_numbers.specs.Fractions.{Fraction, zero_fraction}
use Rattle.spec_sorts.specs.Terms.{Head, Apply, Term, Terms, app, list_of, terms_of}
use Rattle.spec_sorts.proofs.General.{list_of-terms_of}
use Rattle.spec_derivations.specs.Problems.{Problem}
use Rattle.spec_valuations.specs.Propositional.{AppliesNothing, IsPropositional, IsPropositionallySaturated}
use Rattle.term_core.specs.declared.ids.TermId.{TermId}
use Rattle.term_core.specs.Tables.{TableView, AreDifferent, Extends, term_at, clause_at}
use Rattle.spec_sorts.specs.Literals.{Literal}
use Rattle.clause_literals.specs.Literals.{IsConsistent}
use Rattle.proof_log.specs.Theories.{TheoryView}
use Rattle.search_model.specs.Models.{truths_of, TakeNumbersOf}
use Rattle.search_loop.specs.declared.search.Search.{Search}
use Rattle.search_loop.specs.Search.{SearchFits}
use Rattle.search_loop.specs.Rounds.{IsSearch}
use Rattle.search_loop.specs.Asking.{HasSaturated}
use Rattle.solve_core.specs.Sharing.{is_declared}
use Rattle.solve_core.proofs.SearchNumbers.{same_terms, same_number}
use Rattle.solve_core.proofs.SearchMet.{formulas, met}

-- another head than a symbol applies none
other_head : (h : Head) (ts : Terms) → is_declared h ≡ false → AppliesNothing (app h ts)
other_head (Apply s) ts e = absurd (false≢true (sym e))
other_head h ts e = tt

-- nor does a symbol without arguments
bare_head : (h : Head) (ts : Terms) → list_of ts ≡ [] → AppliesNothing (app h ts)
bare_head (Apply s) ts e = e
bare_head h ts e = tt

-- a symbol that applies nothing has no arguments
only_bare : (h : Head) (ts : Terms) → is_declared h ≡ true → AppliesNothing (app h ts) → list_of ts ≡ []
only_bare (Apply s) ts e b = b
only_bare h ts e b = absurd (false≢true e)

no_terms : (us : List Term) → length us ≡ 0 → us ≡ []
no_terms [] e = refl
no_terms (u ∷ us) e = absurd (omega (arith, e))

-- whether a term applies a symbol to arguments, by its head and these
module _ (t : Term) (h : Head) (us : List Term) (is : t ≡ app h (terms_of us)) where
  pub other_applies : is_declared h ≡ false → AppliesNothing t
  other_applies e = subst AppliesNothing (sym is) (other_head h (terms_of us) e)

  pub bare_applies : length us ≡ 0 → AppliesNothing t
  bare_applies e = subst AppliesNothing (sym is) (bare_head h (terms_of us) (list_of-terms_of us ∙ no_terms us e))

  pub applies_bare : is_declared h ≡ true → AppliesNothing t → length us ≡ 0
  applies_bare e b = ap length (sym (list_of-terms_of us) ∙ only_bare h (terms_of us) e (subst AppliesNothing is b))

-- terms of a search are propositional in a table that has more, if they were
pub propositional_later : (t u : TableView) → Extends t u → (x y : Search) → SearchFits t x → y.terms ≡ x.terms → All IsPropositional (clause_at t x.terms.items) → All IsPropositional (clause_at u y.terms.items)
propositional_later t u g x y r same plain = subst (λ (ts : List Term). All IsPropositional ts) (sym (same_terms t u g x y r same)) plain

-- the number of each term
abbrev pub zero_at : Term → Fraction
zero_at u = zero_fraction

pub zeros_are : (t : TableView) (ids : List TermId) (n : ℕ) → n ≡ length ids → replicate n zero_fraction ≡ map zero_at (clause_at t ids)
zeros_are t ids n e = ap (λ (k : ℕ). replicate k zero_fraction) (e ∙ sym (length-map ids (term_at t))) ∙ same_number zero_fraction (clause_at t ids)

-- no symbol has arguments that are numbers
pub takes_none : (terms : List Term) → All IsPropositional terms → TakeNumbersOf zero_at terms
takes_none terms plain s ts u i j e = absurd (none u (subst (λ (us : List Term). Contains us u) (All-contains IsPropositional terms (app (Apply s) ts) plain i).bare j))

module _ (t : TableView) (differ : AreDifferent t.terms) (x : Search) (v : TheoryView) (agreed : Type 0) (h : HasSaturated t x v agreed) (consistent : IsConsistent x.trail.literals)
    (problem : Problem) (earlier : List (List Literal)) (s : IsSearch t problem earlier x) where
  pub saturated_here : All IsPropositional (clause_at t x.terms.items) → IsPropositionallySaturated t.symbols problem (clause_at t x.terms.items) (truths_of t x.trail.literals)
  saturated_here plain = record {
    formulas = formulas t differ x v agreed h consistent problem earlier s;
    listed = s.listed.each;
    only = s.listed.only;
    propositional = plain;
    met = met t differ x v agreed h consistent problem earlier s;
  }
