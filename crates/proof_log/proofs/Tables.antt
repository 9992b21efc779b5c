-- Logs over tables that have the same terms by the numbers that the logs name.
use Rattle.std.proofs.Common.{◌≡◌, ℕ, suc, ◌<◌, List, [], ◌∷◌, ◌++◌, length, take, get_or, All, Contains, refl, sym, ap, ◌∙◌, subst, arith, length-append, length-take}
use Rattle.std.proofs.lemmas.List.{get_or_append_left, get_or-take}
use Rattle.std.proofs.Math.Seq.{drop-append_seam}
use Rattle.std.proofs.lemmas.List.Elements.{All-drop, Contains-append_left}
use Rattle.spec_sorts.specs.Terms.{Symbol, Term, no_term}
use Rattle.spec_sorts.specs.WellSorted.{IsFormulaOver}
use Rattle.spec_sorts.proofs.WellSorted.{sorted_over}
use Rattle.spec_derivations.specs.Derivations.{Derivation, «assumption», by_rule, IsDerivation}
use Rattle.spec_derivations.specs.Lemmas.{IsLemma}
use Rattle.term_core.specs.declared.ids.TermId.{TermId}
use Rattle.term_core.specs.Tables.{TableView, term_at, IsIn, clause_at, Extends}
use Rattle.rule_bool.specs.Arguments.{texts_of}
use Rattle.proof_log.specs.Logs.{Logged, assumed, stepped, named, numbers_of, inference_of, derivation_in, AreBelow, IsLogOf}

-- a log without clauses
pub empty_right : (t : TableView) → IsLogOf t []
empty_right t = record {
  formulas = λ k d lt. absurd (omega (arith, lt));
  right = λ before x after is. absurd (omega (arith, ap length is, length-append before (x ∷ after)));
}

module _ (t u : TableView) where
  -- the number means the same in both tables
  IsKept : TermId → Type 0
  IsKept id = IsIn u id × (term_at u id ≡ term_at t id)

  clause_kept : (ids : List TermId) → All IsKept ids → clause_at u ids ≡ clause_at t ids
  unfolding IsKept
  clause_kept [] kept = refl
  clause_kept (id ∷ ids) kept = λ i. (kept 0 id (omega arith)).1 i ∷ clause_kept ids (λ k d lt. kept (suc k) d (omega (arith, lt))) i

  inference_kept : (l : Logged) → All IsKept (named l) → inference_of u l ≡ inference_of t l
  unfolding IsKept
  inference_kept (assumed id) kept = ap (λ x. «assumption» x) (kept 0 id (omega arith)).1
  inference_kept (stepped r ps qs c) kept = ap (λ x. by_rule r (numbers_of ps) (texts_of qs) x) (clause_kept c kept)

  derivation_kept : (log : List Logged) → All (λ l. All IsKept (named l)) log → derivation_in u log ≡ derivation_in t log
  derivation_kept [] kept = refl
  derivation_kept (l ∷ log) kept = λ i. inference_kept l (kept 0 l (omega arith)) i ∷ derivation_kept log (λ k d lt. kept (suc k) d (omega (arith, lt))) i

  log_kept : ((f : Symbol) → Contains t.symbols f → Contains u.symbols f) → (log : List Logged) → All (λ l. All IsKept (named l)) log → IsLogOf t log → IsLogOf u log
  unfolding IsKept
  log_kept among log kept h = record {
    formulas = λ k d lt j e lt_j.
        let id = get_or (named (get_or log k d)) j e in
        let is = kept k d lt j e lt_j in
        let formula = (h.formulas k d lt j e lt_j).1 in
        (is.0, subst (IsFormulaOver u.symbols) (sym is.1) (record { term = sorted_over t.symbols u.symbols among [] (term_at t id) formula.term; sort = formula.sort }));
    right = subst (λ (d : Derivation). IsDerivation d) (sym (derivation_kept log kept)) h.right;
  }

  -- a table that has grown
  grown : (log : List Logged) → IsLogOf t log → Extends t u → All (λ l. All IsKept (named l)) log
  unfolding IsKept
  grown log h more k d lt j e lt_j =
      let id = get_or (named (get_or log k d)) j e in
      let here : id.0 < length t.terms = (h.formulas k d lt j e lt_j).0 in (
        subst (λ ts. id.0 < length ts) (sym more.terms) (omega (arith, here, length-append t.terms more.more_terms)),
        ap (λ ts. get_or ts id.0 no_term) more.terms ∙ get_or_append_left t.terms more.more_terms no_term id.0 here,
      )

  -- a table that was cut
  cut : (n : ℕ) (log : List Logged) → IsLogOf t log → u.terms ≡ take n t.terms → AreBelow n log → All (λ l. All IsKept (named l)) log
  unfolding IsKept
  cut n log h front below k d lt j e lt_j =
      let id = get_or (named (get_or log k d)) j e in
      let here : id.0 < length t.terms = (h.formulas k d lt j e lt_j).0 in
      let under : id.0 < n = below k d lt j e lt_j in (
        subst (λ ts. id.0 < length ts) (sym front) (omega (arith, here, under, length-take n t.terms)),
        ap (λ ts. get_or ts id.0 no_term) front ∙ get_or-take n t.terms id.0 no_term under,
      )

  pub grown_right : (log : List Logged) → IsLogOf t log → Extends t u → IsLogOf u log
  grown_right log h more = log_kept (λ f f_in. subst (λ (fs : List Symbol). Contains fs f) (sym more.symbols) (Contains-append_left t.symbols more.more_symbols f f_in)) log (grown log h more) h

  pub grown_same : (log : List Logged) → IsLogOf t log → Extends t u → derivation_in u log ≡ derivation_in t log
  grown_same log h more = derivation_kept log (grown log h more)

  pub cut_right : (n : ℕ) (log : List Logged) → IsLogOf t log → u.terms ≡ take n t.terms → u.symbols ≡ t.symbols → AreBelow n log → IsLogOf u log
  cut_right n log h front same below = log_kept (λ f f_in. subst (λ (fs : List Symbol). Contains fs f) (sym same) f_in) log (cut n log h front below) h

  pub cut_same : (n : ℕ) (log : List Logged) → IsLogOf t log → u.terms ≡ take n t.terms → u.symbols ≡ t.symbols → AreBelow n log → derivation_in u log ≡ derivation_in t log
  cut_same n log h front same below = derivation_kept log (cut n log h front below)

  -- lemmas stay lemmas
  pub grown_lemmas : (ts : List Term) (n : ℕ) (before more : List Logged) → IsLogOf t (before ++ more) → Extends t u → All (λ l. IsLemma ts (derivation_in t (before ++ more)) n (inference_of t l)) more → All (λ l. IsLemma ts (derivation_in u (before ++ more)) n (inference_of u l)) more
  unfolding IsKept
  grown_lemmas ts n before more h extends lemmas =
      let kept : All (λ l. All IsKept (named l)) more =
      subst (All (λ l. All IsKept (named l))) (drop-append_seam before more) (All-drop (λ l. All IsKept (named l)) (length before) (before ++ more) (grown (before ++ more) h extends)) in
      λ k d lt. subst (λ (e : Derivation). IsLemma ts e n (inference_of u (get_or more k d))) (sym (grown_same (before ++ more) h extends))
      (subst (IsLemma ts (derivation_in t (before ++ more)) n) (sym (inference_kept (get_or more k d) (kept k d lt))) (lemmas k d lt))
