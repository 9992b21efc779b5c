-- What a store has of the log: with the same clauses, and with one more over a table that grew.
use Rattle.std.proofs.Common.{◌≡◌, ℕ, ◌+◌, ◌<◌, ◌≤◌, List, [], ◌∷◌, ◌++◌, length, get_or, take, Contains, inl, inr, sym, ap, ◌∙◌, subst, arith}
use Rattle.std.specs.Prelude.{Some}
use Rattle.std.proofs.lemmas.Bool.{cases_lt}
use Rattle.std.proofs.lemmas.List.{length-append, get_or_append_left, append-nil, append_assoc}
use Rattle.std.proofs.Math.Seq.{get_or-append_seam, take-append_seam}
use Rattle.spec_sorts.specs.Literals.{literals_of}
use Rattle.term_core.specs.declared.ids.TermId.{TermId}
use Rattle.term_core.specs.declared.ids.Lit.{Lit}
use Rattle.term_core.specs.Tables.{TableView, AreIn, Extends, clause_at}
use Rattle.term_core.proofs.TermsExtend.{clause_at-kept}
use Rattle.clause_literals.specs.Statuses.{IsFalsified}
use Rattle.clause_literals.specs.Literals.{LiteralsMean}
use Rattle.proof_log.specs.declared.premises.StepId.{StepId}
use Rattle.proof_log.specs.Logs.{Logged, named, logged_at, no_logged, IsLogOf}
use Rattle.clause_store.specs.Stores.{StoreView, no_step, HasSameClauses, HasSeen, IsAdded}
use Rattle.clause_store.specs.Propagating.{AreImplied, IsClash}
use Rattle.sat_trail.specs.Trails.{TrailView, no_lit}
use Rattle.search_loop.specs.Search.{DerivesClauses}
use Rattle.search_loop.specs.Growing.{StoresAll}
use Rattle.search_loop.proofs.SearchLists.{of_kept, lits_kept}

-- the clauses are the same
module _ (a b : StoreView) (e : HasSameClauses a b) where
  pub derives_same : (t : TableView) (log : List Logged) → DerivesClauses t log a → DerivesClauses t log b
  derives_same t log h = record {
    paired = ap length e.steps ∙ h.paired ∙ sym (ap length e.clauses);
    there = λ k lt. subst (λ (ss : List StepId). (get_or ss k no_step).0 < length log) (sym e.steps) (h.there k (omega (arith, lt, ap length e.clauses)));
    same = λ k lt. subst (λ (ss : List StepId). LiteralsMean t (get_or b.clauses k []) (clause_at t (named (logged_at log (get_or ss k no_step))))) (sym e.steps)
        (subst (λ (cs : List (List Lit)). LiteralsMean t (get_or cs k []) (clause_at t (named (logged_at log (get_or a.steps k no_step))))) (sym e.clauses) (h.same k (omega (arith, lt, ap length e.clauses))));
  }

  pub implied_same : (v : TrailView) → AreImplied a v → AreImplied b v
  implied_same v h = record {
    paired = h.paired;
    implied = λ k r lt f.
        let i = h.implied k r lt f in
        record {
          number = i.number;
          there = omega (arith, i.there, ap length e.clauses);
          reason_is = i.reason_is ∙ ap (λ (ss : List StepId). Some (get_or ss i.number no_step).0) (sym e.steps);
          has_it = subst (λ (cs : List (List Lit)). Contains (get_or cs i.number []) (get_or v.literals k no_lit)) (sym e.clauses) i.has_it;
          others_false = λ m j d. i.others_false m (subst (λ (cs : List (List Lit)). Contains (get_or cs i.number []) m) e.clauses j) d;
        };
  }

  pub clash_same : (held : List Lit) (step : StepId) → IsClash a held step → IsClash b held step
  clash_same held step c = record {
    number = c.number;
    there = omega (arith, c.there, ap length e.clauses);
    step_is = c.step_is ∙ ap (λ (ss : List StepId). get_or ss c.number no_step) (sym e.steps);
    fails = subst (λ (cs : List (List Lit)). IsFalsified held (get_or cs c.number [])) (sym e.clauses) c.fails;
  }

-- what a list of terms means, over a table that grew
pub means_kept : (t u : TableView) → Extends t u → (c : List Lit) (ids : List TermId) → AreIn t ids → LiteralsMean t c (clause_at t ids) → LiteralsMean u c (clause_at u ids)
means_kept t u g c ids there m = record {
  same = lits_kept t u g c m.there ∙ m.same ∙ ap literals_of (sym (clause_at-kept t u g ids there));
  there = of_kept t u g c m.there;
}

-- a clause more
module _ (t : TableView) (log : List Logged) (id : StepId) (a b : StoreView) (h : DerivesClauses t log a) (y : IsAdded t log id a b) (in_log : id.0 < length log) where
  is_last : (k : ℕ) → length a.clauses ≤ k → k < length b.clauses → k ≡ length a.clauses
  is_last k from lt = omega (arith, from, lt, ap length y.clauses, length-append a.clauses (y.clause ∷ []))

  step : (k : ℕ) → k < length a.clauses → get_or a.steps k no_step ≡ get_or b.steps k no_step
  step k early = sym (get_or_append_left a.steps (id ∷ []) no_step k (omega (arith, early, h.paired))) ∙ ap (λ (ss : List StepId). get_or ss k no_step) (sym y.steps)

  clause : (k : ℕ) → k < length a.clauses → get_or a.clauses k [] ≡ get_or b.clauses k []
  clause k early = sym (get_or_append_left a.clauses (y.clause ∷ []) [] k early) ∙ ap (λ (cs : List (List Lit)). get_or cs k []) (sym y.clauses)

  pub last_step : (k : ℕ) → k ≡ length a.clauses → id ≡ get_or b.steps k no_step
  last_step k e = sym (get_or-append_seam a.steps id [] no_step) ∙ (λ i. get_or (sym y.steps i) (sym (e ∙ sym h.paired) i) no_step)

  pub last_clause : (k : ℕ) → k ≡ length a.clauses → y.clause ≡ get_or b.clauses k []
  last_clause k e = sym (get_or-append_seam a.clauses y.clause [] []) ∙ (λ i. get_or (sym y.clauses i) (sym e i) [])

  pub derives_with : DerivesClauses t log b
  derives_with = record {
    paired = omega (arith, ap length y.steps, ap length y.clauses, h.paired, length-append a.steps (id ∷ []), length-append a.clauses (y.clause ∷ []));
    there = λ k lt. elim (cases_lt k (length a.clauses)) [
      | inl early ↦ subst (λ (s : StepId). s.0 < length log) (step k early) (h.there k early)
      | inr from ↦ subst (λ (s : StepId). s.0 < length log) (last_step k (is_last k from lt)) in_log
    ];
    same = λ k lt. elim (cases_lt k (length a.clauses)) [
      | inl early ↦
          subst (λ (z : StepId). LiteralsMean t (get_or b.clauses k []) (clause_at t (named (logged_at log z)))) (step k early)
          (subst (λ (c : List Lit). LiteralsMean t c (clause_at t (named (logged_at log (get_or a.steps k no_step))))) (clause k early) (h.same k early))
      | inr from ↦
          subst (λ (z : StepId). LiteralsMean t (get_or b.clauses k []) (clause_at t (named (logged_at log z)))) (last_step k (is_last k from lt))
          (subst (λ (c : List Lit). LiteralsMean t c (clause_at t (named (logged_at log id)))) (last_clause k (is_last k from lt)) y.means)
    ];
  }

-- steps more, over a table that grew
pub derives_on : (t u : TableView) (g : Extends t u) (log new more : List Logged) → new ≡ log ++ more → (a : StoreView) → IsLogOf t log → DerivesClauses t log a → DerivesClauses u new a
derives_on t u g log new more last a right h = record {
  paired = h.paired;
  there = λ k lt. let was = h.there k lt in omega (arith, was, ap length last, length-append log more);
  same = λ k lt.
      let s = get_or a.steps k no_step in
      let small = h.there k lt in
      let early : logged_at new s ≡ logged_at log s = ap (λ (xs : List Logged). get_or xs s.0 no_logged) last ∙ get_or_append_left log more no_logged s.0 small in
      subst (λ (l : Logged). LiteralsMean u (get_or a.clauses k []) (clause_at u (named l))) (sym early)
      (means_kept t u g (get_or a.clauses k []) (named (logged_at log s)) (λ j e lt_j. (right.formulas s.0 no_logged small j e lt_j).0) (h.same k lt));
}

-- with a step more the last is this
module _ (log new : List Logged) (x : Logged) (last : new ≡ log ++ x ∷ []) where
  pub last_is : (id : StepId) → id.0 ≡ length log → logged_at new id ≡ x
  last_is id number = (λ i. get_or (last i) (number i) no_logged) ∙ get_or-append_seam log x [] no_logged

  pub longer : length new ≡ length log + 1
  longer = ap length last ∙ length-append log (x ∷ [])

-- a step that was put last is taken off
pub log_back : (log new : List Logged) (x : Logged) (n : ℕ) → new ≡ log ++ x ∷ [] → n ≡ length log → (after : List Logged) → after ≡ take n new → after ≡ log
log_back log new x n last is after e = e ∙ (λ i. take (is i) (last i)) ∙ take-append_seam log (x ∷ [])

-- no clause came
pub stores_none : (t : TableView) (log : List Logged) (s : StoreView) → StoresAll t log [] s s
stores_none t log s = record {
  more = [];
  clauses = sym (append-nil s.clauses);
  steps_are = sym (append-nil s.steps);
  derives = λ h. h;
  seen = λ v h. h;
  implied = λ v paired h. h;
}

-- what is known of a clause that is added, of what was seen and of reasons
abbrev StaysSeen : Type 0
StaysSeen = (x : TableView) (log : List Logged) (id : StepId) (s n : StoreView) (v : TrailView) → HasSeen s v → IsAdded x log id s n → HasSeen n v

abbrev StaysImplied : Type 0
StaysImplied = (x : TableView) (log : List Logged) (id : StepId) (s n : StoreView) (v : TrailView) → length s.steps ≡ length s.clauses → AreImplied s v → IsAdded x log id s n → AreImplied n v

-- there are as many steps and clauses, where there were
abbrev pub StayPaired : StoreView → StoreView → Type 0
StayPaired old new = length old.steps ≡ length old.clauses → length new.steps ≡ length new.clauses

-- clauses came, and one more
module _ (seen : StaysSeen) (implied : StaysImplied) (t : TableView) (log : List Logged) (steps : List StepId) (id : StepId) (a b c : StoreView) (in_log : id.0 < length log) (y : IsAdded t log id b c) where
  pub pairs_more : StayPaired a b → StayPaired a c
  pairs_more h p = omega (arith, ap length y.steps, ap length y.clauses, h p, length-append b.steps (id ∷ []), length-append b.clauses (y.clause ∷ []))

  pub stores_more : StayPaired a b → StoresAll t log steps a b → StoresAll t log (steps ++ id ∷ []) a c
  stores_more h s = record {
    more = s.more ++ y.clause ∷ [];
    clauses = y.clauses ∙ ap (λ (cs : List (List Lit)). cs ++ y.clause ∷ []) s.clauses ∙ append_assoc a.clauses s.more (y.clause ∷ []);
    steps_are = y.steps ∙ ap (λ (xs : List StepId). xs ++ id ∷ []) s.steps_are ∙ append_assoc a.steps steps (id ∷ []);
    derives = λ d. derives_with t log id b c (s.derives d) y in_log;
    seen = λ v was. seen t log id b c v (s.seen v was) y;
    implied = λ v p was. implied t log id b c v (h p) (s.implied v p was) y;
  }
