-- Clauses of a log are true where the assumed terms that they depend on are.
use Rattle.std.proofs.Common.{◌≡◌, true, ℕ, ◌<◌, List, length, get_or, All, Contains, refl, sym, ap, ◌∙◌, subst}
use Rattle.std.proofs.lemmas.List.{length-map, get_or-map}
use Rattle.std.proofs.lemmas.List.Elements.{All-map, All-from_get_or, Contains-get_or}
use Rattle.spec_sorts.specs.Terms.{Symbol, Term}
use Rattle.spec_sorts.specs.Values.{Interpretation, Interprets}
use Rattle.spec_sorts.specs.WellSorted.{IsFormulaOver}
use Rattle.spec_rules.specs.Clauses.{term_true, clause_true}
use Rattle.spec_derivations.specs.Derivations.{Derivation, «assumption», conclusion, no_inference, inference_at, conclusion_at, IsDerivation, DependsOn}
use Rattle.spec_derivations.proofs.Spending.{depends_there}
use Rattle.term_core.specs.declared.ids.TermId.{TermId}
use Rattle.term_core.specs.Tables.{TableView, term_at, clause_at}
use Rattle.proof_log.specs.declared.premises.StepId.{StepId}
use Rattle.proof_log.specs.Logs.{Logged, assumed, stepped, named, no_logged, logged_at, inference_of, derivation_in, IsLogOf}
use Rattle.proof_log.proofs.Logged.{conclusion_of, conclusion_there}

-- A term that was assumed under a number.
record IsAssumedAs (t : TableView) (l : Logged) (u : Term) : Type 0 where
  id : TermId
  is : l ≡ assumed id
  means : term_at t id ≡ u

assumed_as : (t : TableView) (l : Logged) (u : Term) → inference_of t l ≡ «assumption» u → IsAssumedAs t l u
assumed_as t (assumed id) u e = record { id = id; is = refl; means = cc }
assumed_as t (stepped r ps qs c) u e = cc

-- what the law of derivations says
abbrev pub IsLaw : Type 0
IsLaw = (symbols : List Symbol) (d : Derivation) (i : Interpretation) → IsDerivation d → Interprets i symbols
    → All (λ x. All (IsFormulaOver symbols) (conclusion x)) d → (n : ℕ) → n < length d
    → ((m : ℕ) (u : Term) → DependsOn d n m → inference_at d m ≡ «assumption» u → term_true i u ≡ true)
    → clause_true i (conclusion_at d n) ≡ true

module _ (t : TableView) (log : List Logged) (i : Interpretation) (h : IsLogOf t log) (interprets : Interprets i t.symbols) where
  -- the literals of its clauses are formulas
  formulas_there : All (λ x. All (IsFormulaOver t.symbols) (conclusion x)) (derivation_in t log)
  formulas_there = All-map (λ x. All (IsFormulaOver t.symbols) (conclusion x)) (inference_of t) log (λ k d lt.
      subst (λ (c : List Term). All (IsFormulaOver t.symbols) c) (sym (conclusion_of t (get_or log k d)))
      (All-map (IsFormulaOver t.symbols) (term_at t) (named (get_or log k d)) (λ j e lt_j. (h.formulas k d lt j e lt_j).1)))

  -- a clause is true where the assumed terms that it depends on are
  pub clause_sound : IsLaw → (s : StepId) → s.0 < length log
      → ((m : StepId) (id : TermId) → DependsOn (derivation_in t log) s.0 m.0 → m.0 < length log → logged_at log m ≡ assumed id → term_true i (term_at t id) ≡ true)
      → clause_true i (clause_at t (named (logged_at log s))) ≡ true
  clause_sound law s lt assumptions =
      let lt_d : s.0 < length (derivation_in t log) = subst (λ n. s.0 < n) (sym (length-map log (inference_of t))) lt in
      ap (clause_true i) (sym (conclusion_there t log s lt)) ∙ law t.symbols (derivation_in t log) i h.right interprets formulas_there s.0 lt_d (λ m u depends is.
      let m_d : m < length (derivation_in t log) = depends_there (derivation_in t log) h.right s.0 m lt_d depends in
      let m_lt : m < length log = subst (λ n. m < n) (length-map log (inference_of t)) m_d in
      let a = assumed_as t (get_or log m no_logged) u (sym (get_or-map (inference_of t) log m no_logged no_inference m_lt) ∙ is) in
      ap (term_true i) (sym a.means) ∙ assumptions (record { 0 = m }) a.id depends m_lt a.is)

  -- all clauses are true where the assumed terms are
  pub all_sound : IsLaw → ((id : TermId) → Contains log (assumed id) → term_true i (term_at t id) ≡ true) → All (λ l. clause_true i (clause_at t (named l)) ≡ true) log
  all_sound law assumptions = All-from_get_or (λ l. clause_true i (clause_at t (named l)) ≡ true) log no_logged (λ k lt.
      clause_sound law (record { 0 = k }) lt (λ m id depends m_lt is. assumptions id (subst (λ l. Contains log l) is (Contains-get_or log m.0 no_logged m_lt))))
