-- That tries of literals go on one after the other, and what a try comes to.
use Rattle.std.proofs.Common.{◌≡◌, ◌+◌, ◌-◌, ◌≤◌, ◌∙◌, ℕ, suc, List, length, Contains, refl, sym, ap, subst, arith}
use Rattle.std.specs.Prelude.{Vec, Result, Ok, Err, Option, None, Some, IfOk, IfErr, IfSome, IfNone, IsErrAnd}
use Rattle.std.specs.declared.alloc.Global.{Global}
use Rattle.spec_sorts.specs.Terms.{Term}
use Rattle.term_core.specs.declared.ids.TermId.{TermId}
use Rattle.term_core.specs.declared.ids.Lit.{Lit}
use Rattle.term_core.specs.Tables.{TableView, declared_in, Extends}
use Rattle.term_core.proofs.TermsExtend.{Extends-self, Extends-trans}
use Rattle.sat_budget.specs.declared.limits.Stop.{Stop}
use Rattle.sat_budget.specs.declared.limits.Stop.TheVariants.{Strained, Memory}
use Rattle.sat_budget.specs.Budgets.{BudgetView}
use Rattle.proof_log.specs.declared.premises.StepId.{StepId}
use Rattle.proof_log.specs.declared.theory.Verdict.{Verdict}
use Rattle.proof_log.specs.declared.theory.Verdict.TheVariants.{Fine, Clash}
use Rattle.proof_log.specs.Meanings.{Meaning, KeepsRuns}
use Rattle.proof_log.specs.Theories.{CameTo, paid_after}
use Rattle.search_loop.specs.declared.cdcl.End.{End}
use Rattle.search_loop.specs.declared.cdcl.End.TheVariants.{Saturated, Refuted, Stopped}
use Rattle.search_loop.specs.declared.cdcl.Answer.TheVariants.{Unsat, Unknown}
use Rattle.search_loop.specs.declared.search.Search.{Search}
use Rattle.search_loop.specs.Search.{SearchFits}
use Rattle.search_loop.specs.Appending.{Appends}
use Rattle.search_loop.specs.Rounds.{Continues, KeepsLimit}
use Rattle.search_loop.specs.Asking.{IsAsked, HasStopped, OnStop, ResolvesConflict, EndsSearch}
use Rattle.search_loop.specs.Paying.{counted_among, counted_held, atoms_of, paid, paid_by, paid_at, IsPaid}
use Rattle.search_loop.specs.Loops.{LoopState, loop_state, search_of, CanLoop, CameInLoop, StoppedInLoop, Looks, ResolvesClash, TriesTo, paid_tried, TriesAll}
use Rattle.search_loop.proofs.SearchPays.{paid_more, paid_learned, paid_quiet, paid_clash, paid_where, atoms_stay, held_stay, held_among}
use Rattle.search_loop.proofs.SearchAppends.{appends_self, appends_on}
use Rattle.search_loop.proofs.SearchRounds.{continues_same, continues_on, shows_on, ends_on}
use Rattle.search_loop.proofs.SearchSpends.{on_stop_weaker}
use Rattle.search_loop.proofs.SearchLooks.{stopped_on}

-- answers

ok_weaker : {A B : Type 0} (P Q : A → Type 0) → ((x : A) → P x → Q x) → (r : Result A B) → IfOk r P → IfOk r Q
ok_weaker P Q f (Ok x) h = f x h
ok_weaker P Q f (Err e) h = tt

err_weaker : {A B : Type 0} (P Q : B → Type 0) → ((x : B) → P x → Q x) → (r : Result A B) → IfErr r P → IfErr r Q
err_weaker P Q f (Ok x) h = tt
err_weaker P Q f (Err e) h = f e h

-- the error that is handed on
pub handed_same : {A : Type 0} (r : Result A Stop) (e : Stop) → IsErrAnd r (λ s. s ≡ e) → r ≡ Err e
handed_same (Ok x) e is = absurd is
handed_same (Err s) e is = λ i. Err (is i)

-- what is paid

-- where as many tries are paid as there were, and some
more_tries : (a l r k n h : ℕ) → n ≤ paid a l r h → n ≤ paid a l (r + k) h
more_tries a l r k n h le = omega (arith, le)

-- what is held is paid by one growth where it is held no more
rest_paid : (a b l later r held k : ℕ) → k ≤ paid a l (r + 0) held → held ≤ a → b ≡ a → later ≡ l → k ≤ paid b later (r + 1) 0
rest_paid a b l later r held k le most same is = rw (same, is) (omega (arith, le, most))

learned_paid : (a b l r k : ℕ) → b ≡ a → k ≤ paid a l r 0 → k ≤ paid b l (r + 1) 0
learned_paid a b l r k same le = rw same (omega (arith, le))

-- over as many atoms
goes_paid : (a b l r h k : ℕ) → b ≡ a → k ≤ paid a l r h → k ≤ paid b l (r + 0) h
goes_paid a b l r h k same le = rw same (omega (arith, le))

-- as much is held, at least
held_less : (a l r h held n : ℕ) → h ≤ held → n ≤ paid a l r h → n ≤ paid a l r held
held_less a l r h held n few le = omega (arith, few, le)

-- a search went on, which may have tried some literals: what was paid pays for what it came by, as so much is held

pub record GoesOn (tries h held : ℕ) (a b : LoopState) : Type 0 where
  pub continues : Continues a.table b.table a.search b.search
  pub came : (ts : List Term) (r : ℕ) → IsPaid (CameInLoop a ts) (paid_by a.table a.search r h)
      → IsPaid (CameInLoop b ts) (paid_by b.table b.search (r + tries) held)

-- from where it went on it tries more
module _ (k h m held : ℕ) (a b c : LoopState) (g : GoesOn k h held a b) where
  ends_after : (end : End) → EndsSearch (search_of b) (search_of c) ⊥ end → EndsSearch (search_of a) (search_of c) ⊥ end
  ends_after Saturated h = absurd h.0
  ends_after (Refuted step) h = shows_on a.table b.table c.table a.search b.search c.search (Unsat step) g.continues h
  ends_after (Stopped reason) h = shows_on a.table b.table c.table a.search b.search c.search (Unknown reason) g.continues h

  tries_to : (end : Option End) → TriesTo b c end → TriesTo a c end
  tries_to None h = (h.0, continues_on a.table b.table c.table a.search b.search c.search g.continues h.1, h.2)
  tries_to (Some end) h = ends_after end h

  pub tries_after : (r : Result (Option End) Stop) → TriesAll m held b c r → TriesAll (k + m) h a c r
  tries_after result t =
      let shown : Type 0 = c.theory.goes_with c.table × HasStopped (search_of b) (search_of c) c.theory.view in
      let before : Type 0 = c.theory.goes_with c.table × HasStopped (search_of a) (search_of c) c.theory.view in
      record {
        grown = Extends-trans a.table b.table c.table g.continues.table t.grown;
        declared = t.declared ∙ g.continues.declared;
        right = t.right;
        ready = t.ready;
        appended = ok_weaker (λ (end : Option End). Appends b.search c.search) (λ (end : Option End). Appends a.search c.search) (λ end h. appends_on a.search b.search c.search g.continues.appended h) result t.appended;
        limit = ok_weaker (λ (end : Option End). KeepsLimit b.search.budget c.search.budget) (λ (end : Option End). KeepsLimit a.search.budget c.search.budget) (λ end l. l ∙ g.continues.limit) result t.limit;
        terms = ok_weaker (λ (end : Option End). c.search.terms ≡ b.search.terms) (λ (end : Option End). c.search.terms ≡ a.search.terms) (λ end l. l ∙ g.continues.terms) result t.terms;
        with = t.with;
        goes = ok_weaker (TriesTo b c) (TriesTo a c) tries_to result t.goes;
        came = λ ts r n. subst (λ (q : ℕ). CameTo result (λ end. IsPaid (CameInLoop c ts) (paid_tried c.table c.search q end)) (IsPaid (StoppedInLoop c ts) (paid_by c.table c.search q (atoms_of c.table c.search))))
            (let e : (r + k) + m ≡ r + (k + m) = omega arith in e) (t.came ts (r + k) (g.came ts r n));
        stops = t.stops;
        stopped = err_weaker (OnStop shown) (OnStop before) (on_stop_weaker shown before (λ q. (q.0, stopped_on a.table b.table c.table a.search b.search c.search c.theory.view g.continues q.1))) result t.stopped;
      }

-- tries after which it can go on
pub tried_on : (k h : ℕ) (a b : LoopState) → TriesAll k h a b (Ok None) → GoesOn k h 0 a b
tried_on k h a b t = record { continues = t.goes.1; came = t.came }

-- none yet
pub tried_none : (a : LoopState) → CanLoop a → a.search.trail.level ≡ 0 → TriesAll 0 0 a a (Ok None)
tried_none a h level = record {
  grown = Extends-self a.table;
  declared = refl;
  right = h.ready.right;
  ready = h.ready;
  appended = appends_self a.search;
  limit = refl;
  terms = refl;
  with = h.with;
  goes = (h, continues_same a.table a.search a.search refl refl refl refl refl refl refl refl, level);
  came = λ ts r n. (n.0, omega (arith, n.1), n.2);
  stops = tt;
  stopped = tt;
}

-- where a search ends, too
more_at : (t : TableView) (x : Search) (r d m : ℕ) (end : End) → m ≤ paid_at t x r end → m ≤ paid_at t x (r + d) end
more_at t x r d m Saturated p = omega (arith, p)
more_at t x r d m (Refuted step) p = omega (arith, p)
more_at t x r d m (Stopped reason) p = omega (arith, p)

-- fewer than so many
module _ (k n : ℕ) (le : k ≤ n) (h : ℕ) (a b : LoopState) where
  more_paid : (r m : ℕ) (end : Option End) → m ≤ paid_tried b.table b.search (r + k) end → m ≤ paid_tried b.table b.search (r + n) end
  more_paid r m None p = subst (λ (q : ℕ). m ≤ paid_by b.table b.search q 0) (let e : (r + k) + (n - k) ≡ r + n = omega (arith, le) in e) (more_tries (atoms_of b.table b.search) (length b.search.budget.learned) (r + k) (n - k) m 0 p)
  more_paid r m (Some end) p = subst (λ (q : ℕ). m ≤ paid_at b.table b.search q end) (let e : (r + k) + (n - k) ≡ r + n = omega (arith, le) in e) (more_at b.table b.search (r + k) (n - k) m end p)

  more_stopped : (r m : ℕ) → m ≤ paid_by b.table b.search (r + k) (atoms_of b.table b.search) → m ≤ paid_by b.table b.search (r + n) (atoms_of b.table b.search)
  more_stopped r m p = subst (λ (q : ℕ). m ≤ paid_by b.table b.search q (atoms_of b.table b.search)) (let e : (r + k) + (n - k) ≡ r + n = omega (arith, le) in e)
      (more_tries (atoms_of b.table b.search) (length b.search.budget.learned) (r + k) (n - k) m (atoms_of b.table b.search) p)

  pub tries_fewer : (result : Result (Option End) Stop) → TriesAll k h a b result → TriesAll n h a b result
  tries_fewer result t = record {
    grown = t.grown;
    declared = t.declared;
    right = t.right;
    ready = t.ready;
    appended = t.appended;
    limit = t.limit;
    terms = t.terms;
    with = t.with;
    goes = t.goes;
    came = λ ts r p. by ts r result (t.came ts r p);
    stops = t.stops;
    stopped = t.stopped;
  }
    where
      by : (ts : List Term) (r : ℕ) (result : Result (Option End) Stop) → CameTo result (λ end. IsPaid (CameInLoop b ts) (paid_tried b.table b.search (r + k) end)) (IsPaid (StoppedInLoop b ts) (paid_by b.table b.search (r + k) (atoms_of b.table b.search)))
          → CameTo result (λ end. IsPaid (CameInLoop b ts) (paid_tried b.table b.search (r + n) end)) (IsPaid (StoppedInLoop b ts) (paid_by b.table b.search (r + n) (atoms_of b.table b.search)))
      by ts r (Ok end) c = (c.0, more_paid r c.0 end c.1, c.2)
      by ts r (Err (Strained s)) c = (c.0, more_stopped r c.0 c.1, c.2)
      by ts r (Err Memory) c = tt

-- looks

-- what a look found, from which literals are tried
module _ (a b : LoopState) (can : CanLoop a) where
  -- the search that goes on has as many atoms
  same_atoms : Extends a.table b.table → b.search.terms ≡ a.search.terms → atoms_of b.table b.search ≡ atoms_of a.table a.search
  same_atoms more same = atoms_stay a.table a.search can.ready b.table more b.search same

  -- what is held after it
  same_held : Looks a b (Ok Fine) → counted_held b.table b.theory.view.held ≡ counted_held a.table b.theory.view.held
  same_held look =
      let l = look.looks.0 in
      held_stay a.table a.search can.ready b.table l.continues.table b.theory.view.held
      (λ d i. subst (λ (ids : Vec TermId Global). Contains ids.items d.term) l.continues.terms (held_among b.table b.search l.ready b.theory.view l.asked d i))

  pub looked_few : Looks a b (Ok Fine) → (ts : List Term) (n : ℕ) → CameInLoop a ts n → counted_held b.table b.theory.view.held ≤ atoms_of b.table b.search
  looked_few look ts n h =
      let few = (look.came ts n h).2 in
      omega (arith, few, same_held look, same_atoms look.looks.0.continues.table look.looks.0.continues.terms)

  -- where nothing is found wrong it goes on
  pub looked_on : (h : ℕ) → h ≤ counted_held a.table a.theory.view.held → Looks a b (Ok Fine) → GoesOn 0 h (counted_held b.table b.theory.view.held) a b
  looked_on h most look =
      let l = look.looks.0 in
      let held = b.theory.view.held in
      let same = same_held look in
      record {
        continues = l.continues;
        came = λ ts r n.
            let q = held_less (atoms_of a.table a.search) (length a.search.budget.learned) r h (counted_held a.table a.theory.view.held) n.0 most n.1 in
            let m = look.came ts n.0 n.2 in
            let k = m.3 in
            let paid = paid_more (atoms_of a.table a.search) (length a.search.budget.learned) (length b.search.budget.learned) r (counted_held a.table a.theory.view.held) (counted_held a.table held) (counted_held b.table held) n.0 m.0 k.0 q m.1 k.1 (ap length look.learned) same in
            (k.0, goes_paid (atoms_of a.table a.search) (atoms_of b.table b.search) (length b.search.budget.learned) r (counted_held b.table held) k.0 (same_atoms l.continues.table l.continues.terms) paid, k.2);
      }

  -- and can
  pub looked_can : Looks a b (Ok Fine) → CanLoop b
  looked_can look = record { ready = look.looks.0.ready; asked = look.looks.0.asked; with = look.with }

  -- and where it stops, that is shown
  pub looked_stopped : (h : ℕ) → h ≤ counted_held a.table a.theory.view.held → (stop : Stop) → Looks a b (Err stop) → TriesAll 1 h a b (Err stop)
  looked_stopped h few stop look = record {
    grown = look.grown;
    declared = look.declared;
    right = tt;
    ready = tt;
    appended = tt;
    limit = tt;
    terms = tt;
    with = tt;
    goes = tt;
    came = λ ts r n.
        let m = look.came ts n.0 n.2 in
        let q = held_less (atoms_of a.table a.search) (length a.search.budget.learned) r h (counted_held a.table a.theory.view.held) n.0 few n.1 in
        by ts r n.0 m.0 q m.1 m.2 stop look.stopped m.3;
    stops = look.stops;
    stopped = look.stopped;
  }
    where
      by : (ts : List Term) (r n m : ℕ) → n ≤ paid (atoms_of a.table a.search) (length a.search.budget.learned) r (counted_held a.table a.theory.view.held)
          → m + counted_held a.table a.theory.view.held ≡ n + counted_held a.table b.theory.view.held → counted_held a.table b.theory.view.held ≤ atoms_of a.table a.search
          → (stop : Stop) → OnStop (b.theory.goes_with b.table × HasStopped (search_of a) (search_of b) b.theory.view) stop
          → CameTo (let q : Result Verdict Stop = Err stop in q) (λ verdict. IsPaid (CameInLoop b ts) (paid_after verdict m)) (StoppedInLoop b ts m)
          → CameTo (let q : Result (Option End) Stop = Err stop in q) (λ end. IsPaid (CameInLoop b ts) (paid_tried b.table b.search (r + 1) end)) (IsPaid (StoppedInLoop b ts) (paid_by b.table b.search (r + 1) (atoms_of b.table b.search)))
      by ts r n m le e most (Strained s) on c =
          let l = on.1.continues in
          let quiet = paid_quiet (atoms_of a.table a.search) (atoms_of b.table b.search) (length a.search.budget.learned) (length b.search.budget.learned) r (counted_held a.table a.theory.view.held) (counted_held a.table b.theory.view.held) n m m le e most (omega arith) (ap length look.learned) (same_atoms l.table l.terms) in
          (m, more_tries (atoms_of b.table b.search) (length b.search.budget.learned) r 1 m (atoms_of b.table b.search) quiet, c)
      by ts r n m le e most Memory on c = tt

-- where memory runs out, nothing is stated
pub tried_memory : (h k : ℕ) (a b : LoopState) → Extends a.table b.table → declared_in b.table ≡ declared_in a.table → TriesAll k h a b (Err Memory)
tried_memory h k a b grown declared = record {
  grown = grown;
  declared = declared;
  right = tt;
  ready = tt;
  appended = tt;
  limit = tt;
  terms = tt;
  with = tt;
  goes = tt;
  came = λ ts r n. tt;
  stops = tt;
  stopped = tt;
}

-- where the search and its theory are the same but for what was decided, it goes on
goes_as_paid : (a b l later r h held k : ℕ) → k ≤ paid a l r h → b ≡ a → later ≡ l → held ≡ h → k ≤ paid b later (r + 0) held
goes_as_paid a b l later r h held k le same is equal = rw (same, is, equal) (omega (arith, le))

pub goes_as : (a : LoopState) (z : Search) (m : Meaning) → Continues a.table a.table a.search z → KeepsRuns a.theory m → m.view.held ≡ a.theory.view.held → z.budget ≡ a.search.budget
    → GoesOn 0 (counted_held a.table a.theory.view.held) (counted_held a.table m.view.held) a (loop_state a.table z m)
goes_as a z m on keeps held budget = record {
  continues = on;
  came = λ ts r n.
      let atoms : atoms_of a.table z ≡ atoms_of a.table a.search = ap (λ (ids : Vec TermId Global). counted_among a.table ids.items) on.terms in (
        n.0,
        goes_as_paid (atoms_of a.table a.search) (atoms_of a.table z) (length a.search.budget.learned) (length z.budget.learned) r (counted_held a.table a.theory.view.held) (counted_held a.table m.view.held) n.0 n.1 atoms (ap (λ (y : BudgetView). length y.learned) budget) (ap (counted_held a.table) held),
        keeps.came a.table ts n.0 z.budget.exchanges (subst (λ (y : BudgetView). a.theory.running.came_by a.table ts n.0 y.exchanges) (sym budget) n.2),
      );
}

-- where it goes back to level 0, what is held is paid like one growth
module _ (h : ℕ) (a b : LoopState) (g : GoesOn 0 h (counted_held b.table b.theory.view.held) a b)
    (few : (ts : List Term) (n : ℕ) → CameInLoop a ts n → counted_held b.table b.theory.view.held ≤ atoms_of b.table b.search)
    (can : CanLoop b) (z : Search) (m : Meaning) (level : z.trail.level ≡ 0) (budget : z.budget ≡ b.search.budget) (ready : SearchFits b.table z)
    (on : Continues b.table b.table b.search z) (asked : IsAsked m.view z) (keeps : KeepsRuns b.theory m) where
  abbrev rested : LoopState
  rested = loop_state b.table z m

  pub tried_rested : TriesAll 1 h a rested (Ok None)
  tried_rested = record {
    grown = g.continues.table;
    declared = g.continues.declared;
    right = ready.right;
    ready = ready;
    appended = appends_on a.search b.search z g.continues.appended on.appended;
    limit = on.limit ∙ g.continues.limit;
    terms = on.terms ∙ g.continues.terms;
    with = keeps.with b.table can.with;
    goes = (record { ready = ready; asked = asked; with = keeps.with b.table can.with }, continues_on a.table b.table b.table a.search b.search z g.continues on, level);
    came = λ ts r n.
        let k = g.came ts r n in
        let atoms : atoms_of b.table z ≡ atoms_of b.table b.search = ap (λ (ids : Vec TermId Global). counted_among b.table ids.items) on.terms in
        let learned : length z.budget.learned ≡ length b.search.budget.learned = ap (λ (y : BudgetView). length y.learned) budget in (
          k.0,
          rest_paid (atoms_of b.table b.search) (atoms_of b.table z) (length b.search.budget.learned) (length z.budget.learned) r (counted_held b.table b.theory.view.held) k.0 k.1 (few ts n.0 n.2) atoms learned,
          keeps.came b.table ts k.0 z.budget.exchanges (subst (λ (y : BudgetView). b.theory.running.came_by b.table ts k.0 y.exchanges) (sym budget) k.2),
        );
    stops = tt;
    stopped = tt;
  }

-- where the search learned from a conflict, or ended
module _ (h : ℕ) (a b c : LoopState) (can : CanLoop a) (most : h ≤ counted_held a.table a.theory.view.held) (step : StepId) (look : Looks a b (Ok (Clash step))) where
  on : Continues a.table b.table a.search b.search
  on = look.looks.0.continues

  resolved_to : (end : Option End) → ResolvesConflict (search_of b) (search_of c) c.theory.view end → c.theory.goes_with c.table → IfNone end (c.search.trail.level ≡ 0) → TriesTo a c end
  resolved_to None r with level = (record { ready = r.0.ready; asked = r.1; with = with }, continues_on a.table b.table c.table a.search b.search c.search on r.0.continues, level)
  resolved_to (Some end) r with level = ends_on a.table b.table c.table a.search b.search c.search c.theory.view ⊥ end on r

  -- it speaks of the same terms
  same_terms : (end : Option End) → ResolvesConflict (search_of b) (search_of c) c.theory.view end → IfSome end (λ _. (c.search.terms ≡ b.search.terms) × (c.search.budget ≡ b.search.budget)) → c.search.terms ≡ a.search.terms
  same_terms None r ended = r.0.continues.terms ∙ on.terms
  same_terms (Some end) r ended = ended.0 ∙ on.terms

  paid_resolved : (end : Option End) → Extends b.table c.table → ResolvesConflict (search_of b) (search_of c) c.theory.view end → IfSome end (λ _. (c.search.terms ≡ b.search.terms) × (c.search.budget ≡ b.search.budget))
      → (r n m k : ℕ) → n ≤ paid (atoms_of a.table a.search) (length a.search.budget.learned) r (counted_held a.table a.theory.view.held) → m + counted_held a.table a.theory.view.held ≡ n + counted_held a.table b.theory.view.held
      → counted_held a.table b.theory.view.held ≤ atoms_of a.table a.search → k ≤ suc m → k ≤ paid_tried c.table c.search (r + 1) end
  paid_resolved None grown q ended r n m k le e few less =
      let atoms = same_atoms a c can (Extends-trans a.table b.table c.table on.table grown) (same_terms None q tt) in
      let learned = q.0.learned ∙ ap (λ (xs : List (List Lit)). length xs + 1) look.learned in
      let paid = paid_learned (atoms_of a.table a.search) (length a.search.budget.learned) (length c.search.budget.learned) r (counted_held a.table a.theory.view.held) (counted_held a.table b.theory.view.held) 0 n m k le e few less learned in
      learned_paid (atoms_of a.table a.search) (atoms_of c.table c.search) (length c.search.budget.learned) r k atoms paid
  paid_resolved (Some end) grown q ended r n m k le e few less =
      let atoms = same_atoms a c can (Extends-trans a.table b.table c.table on.table grown) (same_terms (Some end) q ended) in
      let learned : length c.search.budget.learned ≡ length a.search.budget.learned = ap (λ (y : BudgetView). length y.learned) ended.1 ∙ ap length look.learned in
      let clash = paid_clash (atoms_of a.table a.search) (atoms_of c.table c.search) (length a.search.budget.learned) (length c.search.budget.learned) r (counted_held a.table a.theory.view.held) (counted_held a.table b.theory.view.held) n m k le e few less learned atoms in
      more_at c.table c.search r 1 k end (paid_where c.table c.search r k end (λ f. subst (λ (x : End). ResolvesConflict (search_of b) (search_of c) c.theory.view (Some x)) f q) clash)

  pub tried_clash : (end : Option End) → ResolvesClash b c (Ok end) → IfNone end (c.search.trail.level ≡ 0) → TriesAll 1 h a c (Ok end)
  tried_clash end q level = record {
    grown = Extends-trans a.table b.table c.table on.table q.grown;
    declared = q.declared ∙ on.declared;
    right = q.right;
    ready = q.ready;
    appended = appends_on a.search b.search c.search on.appended q.appended;
    limit = q.limit ∙ on.limit;
    terms = same_terms end q.resolves_conflict q.ended;
    with = q.with;
    goes = resolved_to end q.resolves_conflict q.with level;
    came = λ ts r n.
        let le = held_less (atoms_of a.table a.search) (length a.search.budget.learned) r h (counted_held a.table a.theory.view.held) n.0 most n.1 in
        let m = look.came ts n.0 n.2 in
        let k = m.3 in
        (k.0, paid_resolved end q.grown q.resolves_conflict q.ended r n.0 m.0 k.0 le m.1 m.2 k.1, q.came ts k.0 k.2);
    stops = tt;
    stopped = tt;
  }
