-- What comes of adding a step, by what its premises and its rule say.
use Rattle.std.proofs.Common.{◌≡◌, ℕ, ◌+◌, ◌<◌, List, [], ◌∷◌, ◌++◌, length, map, take, get_or, Result, Ok, Err, sym, ◌∙◌, subst, add-one}
use Rattle.std.specs.Prelude.{MatchResult}
use Rattle.std.specs.Result.{IsErrAnd}
use Rattle.std.proofs.lemmas.List.{map_more}
use Rattle.std.proofs.lemmas.List.Elements.{All-push}
use Rattle.std.proofs.Math.Seq.{take-suc}
use Rattle.no_memory.specs.declared.NoMemory.{NoMemory}
use Rattle.spec_numbers.specs.Fractions.{Fraction}
use Rattle.spec_proofs.specs.declared.Rule.{Rule}
use Rattle.spec_rules.specs.Rules.{IsRight, IsWide}
use Rattle.term_core.specs.declared.ids.TermId.{TermId}
use Rattle.term_core.specs.Tables.{TableView, clause_at}
use Rattle.rule_bool.specs.declared.rule_stop.RuleStop.{RuleStop}
use Rattle.rule_bool.specs.declared.rule_stop.RuleStop.TheVariants.{Fails, Wide as is_wide, Memory as no_memory}
use Rattle.rule_bool.specs.Resolvents.{StopsRule}
use Rattle.rule_bool.specs.Arguments.{texts_of}
use Rattle.proof_log.specs.declared.premises.StepId.{StepId}
use Rattle.proof_log.specs.declared.log_fault.LogFault.{LogFault}
use Rattle.proof_log.specs.declared.log_fault.LogFault.TheVariants.{RuleFails, Wide, Memory}
use Rattle.spec_derivations.specs.Derivations.{FollowsFrom}
use Rattle.proof_log.specs.Logs.{Logged, assumed, stepped, AreStepsOf, clauses_in, named, logged_at, inference_of, derivation_in, AreFormulasIn, IsLogOf}
use Rattle.proof_log.specs.Faults.{fault_of}
use Rattle.proof_log.specs.Adding.{Assumes, IsAdded, JudgesClause, Collects}
use Rattle.proof_log.proofs.Logged.{numbers_back, follows_back, wide_there, wide_back, log_push, one_there}

module _ (t : TableView) (log : List Logged) (r : Rule) (ps : List StepId) (qs : List Fraction) (c : List TermId) where
  -- a premise is not there, or its copy found no memory
  pub missing : (f : LogFault) → Collects log ps (Err f) → JudgesClause t log (stepped r ps qs c) (Err f)
  missing RuleFails h = (λ follows. h (numbers_back t log ps follows.0), λ wide. h (numbers_back t log ps wide.0))
  missing Wide h = absurd h
  missing Memory h = tt

  -- the rule does not take the step, or found no memory
  pub refused : (stop : RuleStop) → AreStepsOf log ps
      → StopsRule stop (IsRight r (map (clause_at t) (clauses_in log ps)) (texts_of qs) (clause_at t c)) (IsWide r (map (clause_at t) (clauses_in log ps)) (texts_of qs) (clause_at t c))
      → JudgesClause t log (stepped r ps qs c) (Err (fault_of stop))
  refused Fails there h = (λ follows. h.0 (follows_back t log r ps qs c there follows), λ wide. h.1 (wide_back t log r ps qs c there wide))
  refused is_wide there h = wide_there t log r ps qs c there h
  refused no_memory there h = tt

-- an error is that fault
pub judged : (t : TableView) (log : List Logged) (l : Logged) (result : Result (Unit {0}) LogFault) (f : LogFault) → IsErrAnd result (λ e. e ≡ f)
    → JudgesClause t log l (Err f) → JudgesClause t log l result
judged t log l (Err e) f is h = subst (λ g. JudgesClause t log l (Err g)) (sym is) h
judged t log l (Ok x) f is h = absurd is

-- what follows, and is last, is added
pub added : (t : TableView) (old : List Logged) (l : Logged) (id : StepId) (new : List Logged) → IsLogOf t old → AreFormulasIn t (named l)
    → FollowsFrom (derivation_in t old) (inference_of t l) → id.0 ≡ length old → new ≡ old ++ l ∷ [] → IsAdded t old l id new
added t old l id new h here follows is_next is_last = record {
  number = is_next;
  last = is_last;
  follows = follows;
  right = subst (λ x. IsLogOf t x) (sym is_last) (log_push t old l h here follows);
}

-- what follows is added, or nothing is changed
pub added_or_not : (t : TableView) (old : List Logged) (l : Logged) (result : Result StepId NoMemory) (new : List Logged) → IsLogOf t old → AreFormulasIn t (named l)
    → FollowsFrom (derivation_in t old) (inference_of t l) → MatchResult result (λ id. (id.0 ≡ length old) × (new ≡ old ++ l ∷ [])) (λ _. new ≡ old)
    → MatchResult result (λ id. IsAdded t old l id new) (λ _. new ≡ old)
added_or_not t old l (Ok id) new h here follows is = added t old l id new h here follows is.0 is.1
added_or_not t old l (Err e) new h here follows is = is

-- what is assumed is last, or nothing is changed
pub assumed_or_not : (old : List Logged) (id : TermId) (result : Result StepId NoMemory) (new : List Logged)
    → MatchResult result (λ s. (s.0 ≡ length old) × (new ≡ old ++ assumed id ∷ [])) (λ _. new ≡ old) → Assumes old id result new
assumed_or_not old id (Ok s) new is = record {
  number = is.0;
  last = is.1;
  right = λ u h here. subst (λ l. IsLogOf u l) (sym is.1) (log_push u old (assumed id) h (one_there u id here) tt);
}
assumed_or_not old id (Err e) new is = is

-- the numbers before, with one more, are the log's
pub one_more_there : (log : List Logged) (ss : List StepId) (k : ℕ) (d : StepId) → k < length ss → (get_or ss k d).0 < length log
    → AreStepsOf log (take k ss) → AreStepsOf log (take (k + 1) ss)
one_more_there log ss k d lt here there =
    subst (λ l. AreStepsOf log l) (sym (rw add-one (take-suc ss k d lt))) (All-push (λ (s : StepId). s.0 < length log) (take k ss) (get_or ss k d) there here)

-- and the clauses with one more are theirs
pub one_more_same : (log : List Logged) (ss : List StepId) (k : ℕ) (d : StepId) (clauses new : List (List TermId)) (clause : List TermId) → k < length ss
    → new ≡ clauses ++ clause ∷ [] → clause ≡ named (logged_at log (get_or ss k d)) → clauses ≡ clauses_in log (take k ss) → new ≡ clauses_in log (take (k + 1) ss)
one_more_same log ss k d clauses new clause lt is_last is same =
    let clause_of : StepId → List TermId = λ s. named (logged_at log s) in
    is_last ∙ (λ i. same i ++ is i ∷ []) ∙ sym (map_more clause_of ss k d lt)
