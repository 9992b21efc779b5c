-- Batches of lemmas: what was there stays, and a step more is a lemma.
use Rattle.std.proofs.Common.{◌≡◌, Bool, true, false, ◌<◌, ◌≤◌, ◌+◌, inl, inr, List, [], ◌∷◌, ◌++◌, length, map, get_or, sym, ap, ◌∙◌, subst, arith, length-append, append_assoc}
use Rattle.std.specs.Prelude.{MatchBool, Contains, Option, Some, None, IfSome, Result, Ok, Err, IfOk}
use Rattle.std.proofs.lemmas.List.{append-nil, map-append}
use Rattle.std.proofs.Math.Seq.{get_or-append_seam}
use Rattle.std.proofs.lemmas.List.Elements.{All-nil, All-cons, All-push, All-map, All-weaker}
use Rattle.spec_numbers.specs.Fractions.{Fraction}
use Rattle.spec_sorts.specs.Terms.{negated}
use Rattle.spec_sorts.specs.Literals.{Clause, literals_of, complement}
use Rattle.spec_proofs.specs.declared.Rule.{Rule}
use Rattle.spec_proofs.specs.declared.Rule.TheVariants.{Resolution}
use Rattle.spec_rules.specs.Clauses.{IsResolvent}
use Rattle.spec_derivations.specs.Derivations.{Derivation, Inference, FollowsFrom}
use Rattle.spec_derivations.specs.ExactChains.{IsExactResolvent}
use Rattle.spec_derivations.specs.Lemmas.{IsMadeOf, IsLemma, TakesNoMore}
use Rattle.spec_derivations.proofs.Onward.{lemma_onward}
use Rattle.spec_derivations.proofs.Exact.{exact_resolves}
use Rattle.no_memory.specs.declared.NoMemory.{NoMemory}
use Rattle.term_core.specs.declared.ids.TermId.{TermId}
use Rattle.term_core.specs.Tables.{TableView, term_at, IsIn, clause_at}
use Rattle.term_core.proofs.TermsExtend.{term_at-kept}
use Rattle.proof_log.specs.declared.premises.StepId.{StepId}
use Rattle.proof_log.specs.Logs.{Logged, stepped, named, no_logged, logged_at, AreStepsOf, clauses_in, numbers_of, inference_of, derivation_in, IsFormulaIn, AreFormulasIn}
use Rattle.proof_log.specs.Adding.{IsAdded}
use Rattle.proof_log.specs.Theories.{Derived, derived}
use Rattle.proof_log.proofs.Logged.{numbers_there, premises_there}
use Rattle.proof_log.proofs.Tables.{grown_right}
use Rattle.proof_log.proofs.Composed.{lemmas_after}
use Rattle.term_clauses.specs.Stating.{Widens}
use Rattle.term_clauses.proofs.Arguments.{Widens-self, Widens-trans}
use Rattle.term_clauses.proofs.Parts.{formula_kept}
use Rattle.congruence_explain.specs.Choosing.{ComesFrom, IsNotFound}
use Rattle.case_equalities.specs.Stating.{Batch, Continues, GoesOn, IsMade, AreMade, IsDenialOf, IsStepOf, AreStepsIn}

-- what is made of the terms is so in a wider table
module _ (b : Batch) (t u : TableView) (wider : Widens t u) where
  pub made_kept : (id : TermId) → IsMade b t id → IsMade b u id
  made_kept id h = (formula_kept t u wider id h.0, subst (IsMadeOf b.terms) (sym (term_at-kept t u wider.terms id h.0.0)) h.1)

  pub all_made_kept : (ids : List TermId) → AreMade b t ids → AreMade b u ids
  all_made_kept = All-weaker (IsMade b t) (IsMade b u) made_kept

  pub denial_kept : (id denial : TermId) → IsIn t id → IsDenialOf b t id denial → IsDenialOf b u id denial
  denial_kept id denial there h = (
    made_kept denial h.0,
    term_at-kept t u wider.terms denial h.0.0.0 ∙ h.1 ∙ ap negated (sym (term_at-kept t u wider.terms id there)),
  )

-- the table of the start, and one that has more
pub since_start : (b : Batch) (now : Derived) → Continues b now → Widens b.start.table now.table
since_start b now d = record { terms = d.table; declared = d.declared }

-- formulas among those that are made
pub formulas_made : (b : Batch) (t : TableView) (ids : List TermId) → AreMade b t ids → AreFormulasIn t ids
formulas_made b t = All-weaker (IsMade b t) (IsFormulaIn t) (λ id h. h.0)

module _ (b : Batch) where
  -- nothing came
  pub goes_none : (now : Derived) → Continues b now → GoesOn b now now
  goes_none now d = record { derives = d; wider = Widens-self now.table; more = []; log = sym (append-nil now.log) }

  -- lemmas after lemmas
  pub goes_after : (old mid new : Derived) → GoesOn b old mid → GoesOn b mid new → GoesOn b old new
  goes_after old mid new one other = record {
    derives = other.derives;
    wider = Widens-trans old.table mid.table new.table one.wider other.wider;
    more = one.more ++ other.more;
    log = other.log ∙ ap (λ (l : List Logged). l ++ other.more) one.log ∙ append_assoc old.log one.more other.more;
  }

  -- no step is gone
  pub goes_longer : (old new : Derived) → GoesOn b old new → length old.log ≤ length new.log
  goes_longer old new g = omega (arith, ap length g.log, length-append old.log g.more)

  -- terms came
  pub goes_wider : (t u : TableView) (log : List Logged) → Continues b (derived t log) → Widens t u → GoesOn b (derived t log) (derived u log)
  goes_wider t u log d wider = record {
    derives = lemmas_after b.terms b.start (derived t log) (derived u log) d (record {
      table = wider.terms;
      declared = wider.declared;
      more = [];
      log = sym (append-nil log);
      right = grown_right t u log d.right wider.terms;
      lemmas = All-nil (λ l. IsLemma b.terms (derivation_in u log) (length log) (inference_of u l));
    });
    wider = wider;
    more = [];
    log = sym (append-nil log);
  }

  -- a step of the batch stays one
  pub step_later : (log new : List Logged) → length log ≤ length new → (id : StepId) → IsStepOf b log id → IsStepOf b new id
  step_later log new longer id h = (h.0, omega (arith, h.1, longer))

  pub steps_later : (log new : List Logged) → length log ≤ length new → (ids : List StepId) → AreStepsIn b log ids → AreStepsIn b new ids
  steps_later log new longer = All-weaker (IsStepOf b log) (IsStepOf b new) (step_later log new longer)

  pub steps_none : (log : List Logged) (ids : List StepId) → ids ≡ [] → AreStepsIn b log ids
  steps_none log ids empty = subst (AreStepsIn b log) (sym empty) (All-nil (IsStepOf b log))

  pub steps_more : (log : List Logged) (ids all : List StepId) (id : StepId) → all ≡ ids ++ id ∷ [] → AreStepsIn b log ids → IsStepOf b log id → AreStepsIn b log all
  steps_more log ids all id is h here = subst (AreStepsIn b log) (sym is) (All-push (IsStepOf b log) ids id h here)

  -- one more that is made
  pub made_more : (t : TableView) (ids all : List TermId) (id : TermId) → all ≡ ids ++ id ∷ [] → AreMade b t ids → IsMade b t id → AreMade b t all
  made_more t ids all id is h here = subst (AreMade b t) (sym is) (All-push (IsMade b t) ids id h here)

  pub both_made : (t : TableView) (one other : TermId) → IsMade b t one → IsMade b t other → AreMade b t (one ∷ other ∷ [])
  both_made t one other h k = All-cons (IsMade b t) one (other ∷ []) h (All-cons (IsMade b t) other [] k (All-nil (IsMade b t)))

-- a step that was added
module _ (b : Batch) (t : TableView) (log : List Logged) (d : Continues b (derived t log)) (rule : Rule) (ps : List StepId) (qs : List Fraction) (ids : List TermId) (made : AreMade b t ids) (steps : AreStepsIn b log ps)
    (exact : TakesNoMore (derivation_in t log) (inference_of t (stepped rule ps qs ids))) (id : StepId) (new : List Logged) (added : IsAdded t log (stepped rule ps qs ids) id new) where
  abbrev step : Logged
  step = stepped rule ps qs ids

  -- the log says one inference more
  longer_by : derivation_in t new ≡ derivation_in t log ++ inference_of t step ∷ []
  longer_by = ap (derivation_in t) added.last ∙ map-append (inference_of t) log (step ∷ [])

  -- so each lemma is one still
  lemma_still : (x : Inference) → IsLemma b.terms (derivation_in t log) (length b.start.log) x → IsLemma b.terms (derivation_in t new) (length b.start.log) x
  lemma_still x h = subst (λ (e : Derivation). IsLemma b.terms e (length b.start.log) x) (sym longer_by)
      (lemma_onward (derivation_in t log) (inference_of t step ∷ []) b.terms (length b.start.log) x h)

  -- and so is the step
  lemma_here : IsLemma b.terms (derivation_in t log) (length b.start.log) (inference_of t step)
  lemma_here =
      let low = All-map (λ m. length b.start.log ≤ m) (λ (p : StepId). p.0) ps (λ k e lt. (steps k e lt).0) in (
        λ k e lt. (low k e lt, added.follows.0 k e lt),
        All-map (IsMadeOf b.terms) (term_at t) ids (λ k e lt. (made k e lt).1),
        exact,
      )

  count : length new ≡ length log + 1
  count = ap length added.last ∙ length-append log (step ∷ [])

  -- the batch goes on
  pub goes_step : GoesOn b (derived t log) (derived t new)
  goes_step = record {
    derives = record {
      table = d.table;
      declared = d.declared;
      more = d.more ++ step ∷ [];
      log = added.last ∙ ap (λ (l : List Logged). l ++ step ∷ []) d.log ∙ append_assoc b.start.log d.more (step ∷ []);
      right = added.right;
      lemmas = All-push (λ l. IsLemma b.terms (derivation_in t new) (length b.start.log) (inference_of t l)) d.more step
          (λ k e lt. lemma_still (inference_of t (get_or d.more k e)) (d.lemmas k e lt)) (lemma_still (inference_of t step) lemma_here);
    };
    wider = Widens-self t;
    more = step ∷ [];
    log = added.last;
  }

  -- by that step
  pub step_here : IsStepOf b new id
  step_here = (omega (arith, added.number, ap length d.log, length-append b.start.log d.more), omega (arith, added.number, count))

  -- which states the clause
  pub step_names : named (logged_at new id) ≡ ids
  step_names = ap named ((λ i. get_or (added.last i) (added.number i) no_logged) ∙ get_or-append_seam log step [] no_logged)

-- a step without premises
pub alone_goes : (b : Batch) (t : TableView) (log : List Logged) → Continues b (derived t log) → (rule : Rule) (ps : List StepId) → ps ≡ [] → (qs : List Fraction) (ids clause : List TermId) → ids ≡ clause → AreMade b t clause
    → (id : StepId) (new : List Logged) → IsAdded t log (stepped rule ps qs ids) id new → GoesOn b (derived t log) (derived t new) × IsStepOf b new id
alone_goes b t log d rule ps empty qs ids clause is made id new added =
    let here = subst (AreMade b t) (sym is) made in
    let steps = steps_none b log ps empty in
    let exact : TakesNoMore (derivation_in t log) (inference_of t (stepped rule ps qs ids)) = inl (ap numbers_of empty) in
    (goes_step b t log d rule ps qs ids here steps exact id new added, step_here b t log d rule ps qs ids here steps exact id new added)

-- steps of a batch are the log's
pub steps_there : (b : Batch) (log : List Logged) (ps : List StepId) → AreStepsIn b log ps → AreStepsOf log ps
steps_there b log = All-weaker (IsStepOf b log) (λ (s : StepId). s.0 < length log) (λ s h. h.1)

-- what a test of a chain says
module _ (t : TableView) (log : List Logged) (ss ps : List StepId) (ids clause : List TermId) (told : Bool) (says : MatchBool told (ComesFrom t log ss ids) (IsNotFound t log ss ids)) (steps : ss ≡ ps) (terms : ids ≡ clause) where
  -- the clause comes by one
  pub comes_told : told ≡ true → ComesFrom t log ps clause
  comes_told is =
      let comes = subst (λ (b : Bool). MatchBool b (ComesFrom t log ss ids) (IsNotFound t log ss ids)) is says in
      subst (ComesFrom t log ps) terms (subst (λ (xs : List StepId). ComesFrom t log xs ids) steps comes)

  -- or none is found
  pub missed_told : told ≡ false → IsNotFound t log ps clause
  missed_told is =
      let missed = subst (λ (b : Bool). MatchBool b (ComesFrom t log ss ids) (IsNotFound t log ss ids)) is says in
      subst (IsNotFound t log ps) terms (subst (λ (xs : List StepId). IsNotFound t log xs ids) steps missed)

-- a step without arguments
pub same_step : (rule : Rule) (ss ps : List StepId) → ss ≡ ps → (qs : List Fraction) → qs ≡ [] → (ids clause : List TermId) → ids ≡ clause → stepped rule ss qs ids ≡ stepped rule ps [] clause
same_step rule ss ps steps qs none ids clause terms = λ i. stepped rule (steps i) (none i) (terms i)

-- a step by resolution
module _ (b : Batch) (t : TableView) (log : List Logged) (ps : List StepId) (steps : AreStepsIn b log ps) (clause : List TermId) (comes : ComesFrom t log ps clause) where
  pub resolution_follows : FollowsFrom (derivation_in t log) (inference_of t (stepped Resolution ps [] clause))
  resolution_follows = (
    numbers_there t log ps (steps_there b log ps steps),
    subst (λ (cs : List Clause). IsResolvent cs (clause_at t clause)) (sym (premises_there t log ps (steps_there b log ps steps)))
        (exact_resolves (map literals_of (map (clause_at t) (clauses_in log ps))) (literals_of (clause_at t clause)) comes),
  )

  pub resolution_exact : TakesNoMore (derivation_in t log) (inference_of t (stepped Resolution ps [] clause))
  resolution_exact = inr (subst (λ (cs : List Clause). IsExactResolvent complement (Contains (map literals_of cs)) (literals_of (clause_at t clause))) (sym (premises_there t log ps (steps_there b log ps steps))) comes)

  pub resolution_goes : Continues b (derived t log) → AreMade b t clause → (id : StepId) (new : List Logged) → IsAdded t log (stepped Resolution ps [] clause) id new
      → GoesOn b (derived t log) (derived t new) × IsStepOf b new id × (named (logged_at new id) ≡ clause)
  resolution_goes d made id new added = (
    goes_step b t log d Resolution ps [] clause made steps resolution_exact id new added,
    step_here b t log d Resolution ps [] clause made steps resolution_exact id new added,
    step_names b t log d Resolution ps [] clause made steps resolution_exact id new added,
  )

-- a log that is the same
pub goes_same : (b : Batch) (t : TableView) (log new : List Logged) → Continues b (derived t log) → new ≡ log → GoesOn b (derived t log) (derived t new)
goes_same b t log new d same = subst (λ (l : List Logged). GoesOn b (derived t log) (derived t l)) (sym same) (goes_none b (derived t log) d)

-- what is found, where something is
pub some_is : {A : Type 0} (P : A → Type 0) (found : Option A) (x : A) → found ≡ Some x → IfSome found P → P x
some_is {A} P found x is h = subst (λ (f : Option A). IfSome f P) is h

-- what holds of it, so what follows
pub found_weaker : {A : Type 0} (P Q : A → Type 0) → ((x : A) → P x → Q x) → (r : Result (Option A) NoMemory) → IfOk r (λ f. IfSome f P) → IfOk r (λ f. IfSome f Q)
found_weaker P Q more (Ok (Some x)) h = more x h
found_weaker P Q more (Ok None) h = tt
found_weaker P Q more (Err e) h = tt

pub ok_weaker : {A : Type 0} (P Q : A → Type 0) → ((x : A) → P x → Q x) → (r : Result A NoMemory) → IfOk r P → IfOk r Q
ok_weaker P Q more (Ok x) h = more x h
ok_weaker P Q more (Err e) h = tt
