-- What a log says over a table: its clauses by their numbers, its prefixes, and one clause more.
use Rattle.std.proofs.Common.{◌≡◌, ℕ, suc, ◌<◌, List, [], ◌∷◌, ◌++◌, length, map, take, drop, get_or, All, refl, sym, ap, ◌∙◌, subst, arith}
use Rattle.std.proofs.lemmas.List.{take-append-drop, map-append, length-map, get_or-map}
use Rattle.std.proofs.lemmas.List.Elements.{All-take, All-push, All-map}
use Rattle.std.proofs.Math.ListN.{get_or-map as get_or-map_same}
use Rattle.spec_numbers.specs.Fractions.{Fraction}
use Rattle.spec_sorts.specs.Literals.{Clause}
use Rattle.spec_proofs.specs.declared.Rule.{Rule}
use Rattle.spec_rules.specs.Rules.{IsRight, IsWide}
use Rattle.spec_derivations.specs.Derivations.{Derivation, conclusion, conclusion_at, no_inference, FollowsFrom, IsDerivation}
use Rattle.term_core.specs.declared.ids.TermId.{TermId}
use Rattle.term_core.specs.Tables.{TableView, AreIn, clause_at}
use Rattle.rule_bool.specs.Arguments.{texts_of}
use Rattle.proof_log.specs.declared.premises.StepId.{StepId}
use Rattle.proof_log.specs.Logs.{Logged, assumed, stepped, named, no_logged, logged_at, AreStepsOf, clauses_in, numbers_of, inference_of, derivation_in, IsFormulaIn, AreFormulasIn, IsLogOf}
use Rattle.proof_log.specs.Adding.{IsWideFrom}
use Rattle.spec_derivations.proofs.Derivations.{right_push}
use Rattle.proof_log.proofs.Derivations.{front_right}

-- the clause that is stated
pub conclusion_of : (t : TableView) (l : Logged) → conclusion (inference_of t l) ≡ clause_at t (named l)
conclusion_of t (assumed id) = refl
conclusion_of t (stepped r ps qs c) = refl

module _ (t : TableView) (log : List Logged) where
  -- the clause of a number
  pub conclusion_there : (s : StepId) → s.0 < length log → conclusion_at (derivation_in t log) s.0 ≡ clause_at t (named (logged_at log s))
  conclusion_there s lt = ap conclusion (get_or-map (inference_of t) log s.0 no_logged no_inference lt) ∙ conclusion_of t (logged_at log s)

  -- the clauses of numbers
  pub premises_there : (ps : List StepId) → AreStepsOf log ps → map (conclusion_at (derivation_in t log)) (numbers_of ps) ≡ map (clause_at t) (clauses_in log ps)
  premises_there [] there = refl
  premises_there (p ∷ ps) there =
      λ i. conclusion_there p (there 0 p (omega arith)) i ∷ premises_there ps (λ k d lt. there (suc k) d (omega (arith, lt))) i

  -- the numbers are of the derivation's
  pub numbers_there : (ps : List StepId) → AreStepsOf log ps → All (λ n. n < length (derivation_in t log)) (numbers_of ps)
  numbers_there ps there = All-map (λ n. n < length (derivation_in t log)) (λ (s : StepId). s.0) ps
      (λ k d lt. subst (λ n. (get_or ps k d).0 < n) (sym (length-map log (inference_of t))) (there k d lt))

  -- and the other way round
  pub numbers_back : (ps : List StepId) → All (λ n. n < length (derivation_in t log)) (numbers_of ps) → AreStepsOf log ps
  numbers_back ps there k d lt =
      let number : StepId → ℕ = λ s. s.0 in
      let here : get_or (numbers_of ps) k d.0 ≡ (get_or ps k d).0 = get_or-map_same number ps k d in
      let below : get_or (numbers_of ps) k d.0 < length (derivation_in t log) = there k d.0 (subst (λ n. k < n) (sym (length-map ps number)) lt) in
      subst (λ n. (get_or ps k d).0 < n) (length-map log (inference_of t)) (subst (λ n. n < length (derivation_in t log)) here below)

  -- the clauses are of the table's terms
  pub clauses_there : IsLogOf t log → (ps : List StepId) → AreStepsOf log ps → All (AreIn t) (clauses_in log ps)
  clauses_there h ps there = All-map (AreIn t) (λ s. named (logged_at log s)) ps (λ k d lt j e lt_j. (h.formulas (get_or ps k d).0 no_logged (there k d lt) j e lt_j).0)

  -- a step that is right by its rule follows
  pub follows_there : (r : Rule) (ps : List StepId) (qs : List Fraction) (c : List TermId) → AreStepsOf log ps → IsRight r (map (clause_at t) (clauses_in log ps)) (texts_of qs) (clause_at t c)
      → FollowsFrom (derivation_in t log) (inference_of t (stepped r ps qs c))
  follows_there r ps qs c there right = (numbers_there ps there, subst (λ (cs : List Clause). IsRight r cs (texts_of qs) (clause_at t c)) (sym (premises_there ps there)) right)

  -- a step that follows is right by its rule
  pub follows_back : (r : Rule) (ps : List StepId) (qs : List Fraction) (c : List TermId) → AreStepsOf log ps → FollowsFrom (derivation_in t log) (inference_of t (stepped r ps qs c))
      → IsRight r (map (clause_at t) (clauses_in log ps)) (texts_of qs) (clause_at t c)
  follows_back r ps qs c there h = subst (λ (cs : List Clause). IsRight r cs (texts_of qs) (clause_at t c)) (premises_there ps there) h.1

  -- a step that is wide by its rule is wide
  pub wide_there : (r : Rule) (ps : List StepId) (qs : List Fraction) (c : List TermId) → AreStepsOf log ps → IsWide r (map (clause_at t) (clauses_in log ps)) (texts_of qs) (clause_at t c)
      → IsWideFrom (derivation_in t log) (inference_of t (stepped r ps qs c))
  wide_there r ps qs c there wide = (numbers_there ps there, subst (λ (cs : List Clause). IsWide r cs (texts_of qs) (clause_at t c)) (sym (premises_there ps there)) wide)

  -- and the other way round
  pub wide_back : (r : Rule) (ps : List StepId) (qs : List Fraction) (c : List TermId) → AreStepsOf log ps → IsWideFrom (derivation_in t log) (inference_of t (stepped r ps qs c))
      → IsWide r (map (clause_at t) (clauses_in log ps)) (texts_of qs) (clause_at t c)
  wide_back r ps qs c there h = subst (λ (cs : List Clause). IsWide r cs (texts_of qs) (clause_at t c)) (premises_there ps there) h.1

  -- the first clauses are a log
  pub log_front : (n : ℕ) → IsLogOf t log → IsLogOf t (take n log)
  log_front n h = record {
    formulas = All-take (λ l. AreFormulasIn t (named l)) n log h.formulas;
    right = front_right (derivation_in t (take n log)) (derivation_in t (drop n log))
        (subst (λ (d : Derivation). IsDerivation d) (ap (derivation_in t) (sym (take-append-drop n log)) ∙ map-append (inference_of t) (take n log) (drop n log)) h.right);
  }

  -- with a clause more that follows, it is a log
  pub log_push : (l : Logged) → IsLogOf t log → AreFormulasIn t (named l) → FollowsFrom (derivation_in t log) (inference_of t l) → IsLogOf t (log ++ l ∷ [])
  log_push l h here follows = record {
    formulas = All-push (λ x. AreFormulasIn t (named x)) log l h.formulas here;
    right = subst (λ (d : Derivation). IsDerivation d) (sym (map-append (inference_of t) log (l ∷ []))) (right_push (derivation_in t log) (inference_of t l) h.right follows);
  }

-- one formula alone is of the table's
pub one_there : (t : TableView) (id : TermId) → IsFormulaIn t id → AreFormulasIn t (id ∷ [])
one_there t id here = All-push (IsFormulaIn t) [] id (λ k d lt. absurd (omega (arith, lt))) here
