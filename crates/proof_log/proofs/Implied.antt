-- What a clause rests on is true where it was assumed before a level, if that is as far as it reaches.
use Rattle.std.proofs.Common.{◌≡◌, true, ℕ, ◌<◌, List, length, take, get_or, Contains, sym, ap, ◌∙◌, subst, arith, length-take}
use Rattle.std.proofs.lemmas.List.{length-map, get_or-map}
use Rattle.spec_sorts.specs.Values.{Interpretation, Interprets}
use Rattle.spec_rules.specs.Clauses.{term_true, clause_true}
use Rattle.spec_derivations.specs.Derivations.{no_inference, inference_at, premises_of, DependsOn, itself as depends_itself, by_premise as depends_by_premise}
use Rattle.spec_derivations.proofs.Derivations.{follows_at}
use Rattle.spec_derivations.proofs.Spending.{premises_before}
use Rattle.term_core.specs.declared.ids.TermId.{TermId}
use Rattle.term_core.specs.Tables.{TableView, term_at, clause_at}
use Rattle.proof_log.specs.declared.premises.StepId.{StepId}
use Rattle.proof_log.specs.Logs.{Logged, assumed, named, no_logged, premises_in, logged_at, AreEarlier, numbers_of, inference_of, derivation_in, IsLogOf}
use Rattle.proof_log.specs.Reaches.{RestsOn, itself, by_premise, reach_at}
use Rattle.proof_log.specs.Levels.{LevelMark, IsReachWithin}
use Rattle.proof_log.specs.Keeping.{step_of}
use Rattle.proof_log.proofs.KeptSound.{premises_same}
use Rattle.proof_log.proofs.Scopes.{assumes_within}
use Rattle.proof_log.proofs.Sound.{IsLaw, clause_sound}

-- a number of a list of steps is that of one of them
step_among : (ss : List StepId) (n : ℕ) → Contains (numbers_of ss) n → Contains ss (step_of n)
step_among ss n i =
    let lt : i.0 < length ss = omega (arith, i.1, length-map ss (λ (s : StepId). s.0)) in
    (i.0, lt, ap step_of (sym (get_or-map (λ (s : StepId). s.0) ss i.0 (step_of n) n lt) ∙ i.2))

module _ (log : List Logged) (t : TableView) where
  premises_at : (n : ℕ) → n < length log → premises_of (inference_at (derivation_in t log) n) ≡ numbers_of (premises_in (logged_at log (step_of n)))
  premises_at n lt = ap premises_of (get_or-map (inference_of t) log n no_logged no_inference lt) ∙ premises_same t (logged_at log (step_of n))

  -- what the derivation depends on, the clause rests on
  pub rests_there : AreEarlier log → (n m : ℕ) → n < length log → DependsOn (derivation_in t log) n m → RestsOn log (step_of n) (step_of m)
  rests_there earlier _ _ lt (depends_itself n) = itself (step_of n)
  rests_there earlier n m lt (depends_by_premise _ p _ i depends) =
      let has : Contains (premises_in (logged_at log (step_of n))) (step_of p) = step_among (premises_in (logged_at log (step_of n))) p (subst (λ (ns : List ℕ). Contains ns p) (premises_at n lt) i) in
      let low : p < n = subst (λ (x : StepId). x.0 < n) has.2 (earlier n lt has.0 (step_of p) has.1) in
      by_premise (step_of n) (step_of p) (step_of m) has (rests_there earlier p m (omega (arith, low, lt)) depends)

  -- the premises of a log over a table are earlier
  pub earlier_in : IsLogOf t log → AreEarlier log
  earlier_in h k lt j d lt_j =
      let ps = premises_in (logged_at log (step_of k)) in
      let lt_d : k < length (derivation_in t log) = omega (arith, lt, length-map log (inference_of t)) in
      let p = get_or ps j d in
      let has : Contains (numbers_of ps) p.0 = (j, omega (arith, lt_j, length-map ps (λ (s : StepId). s.0)), get_or-map (λ (s : StepId). s.0) ps j d p.0 lt_j) in
      let low = premises_before (take k (derivation_in t log)) (inference_at (derivation_in t log) k) p.0 (follows_at (derivation_in t log) h.right k lt_d) (subst (λ (ns : List ℕ). Contains ns p.0) (sym (premises_at k lt)) has) in
      omega (arith, low, length-take k (derivation_in t log))

-- a clause is true where what was assumed before a level and what it rests on is, if it reaches no further
pub kept_implied : IsLaw → (t : TableView) (log : List Logged) (i : Interpretation) (mark : LevelMark) (s : StepId) → IsLogOf t log → Interprets i t.symbols → s.0 < length log → IsReachWithin mark (reach_at log s)
    → ((m : StepId) (id : TermId) → RestsOn log s m → m.0 < mark.steps → logged_at log m ≡ assumed id → term_true i (term_at t id) ≡ true)
    → clause_true i (clause_at t (named (logged_at log s))) ≡ true
kept_implied law t log i mark s h interprets lt within assumes =
    clause_sound t log i h interprets law s lt (λ m id depends there is.
    let earlier = earlier_in log t h in
    let rests = rests_there log t earlier s.0 m.0 lt depends in
    let low = assumes_within log earlier s m id lt rests is in
    assumes m id rests (omega (arith, low, within.1)) is)
