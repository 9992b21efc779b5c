-- One round of a search after another, and that the rounds end.
use Rattle.std.proofs.Common.{◌≡◌, ℕ, ◌+◌, ◌-◌, ◌*◌, ◌<◌, ◌≤◌, Bool, List, [], ◌++◌, Contains, refl, sym, ap, ◌∙◌, subst, arith, append_assoc}
use Rattle.std.proofs.lemmas.List.{append-nil}
use Rattle.std.specs.Prelude.{Option, Some}
use Rattle.term_core.specs.declared.ids.Lit.{Lit}
use Rattle.term_core.specs.Tables.{TableView}
use Rattle.clausify.specs.SearchTerms.{AreSearchTerms}
use Rattle.term_core.proofs.TermsExtend.{Extends-self, Extends-trans}
use Rattle.proof_log.specs.Logs.{Logged, derivation_in}
use Rattle.sat_budget.specs.Budgets.{BudgetView}
use Rattle.sat_trail.specs.Trails.{TrailView, IsPushed}
use Rattle.clause_store.specs.Stores.{StoreView, HasSameClauses}
use Rattle.clause_store.specs.Propagating.{AddsImplied}
use Rattle.search_loop.specs.declared.search.Search.{Search}
use Rattle.search_loop.specs.declared.cdcl.Answer.{Answer}
use Rattle.search_loop.specs.declared.cdcl.Answer.TheVariants.{Unsat, Unknown}
use Rattle.search_loop.specs.declared.cdcl.End.{End}
use Rattle.search_loop.specs.declared.cdcl.End.TheVariants.{Saturated, Refuted, Stopped}
use Rattle.search_loop.specs.Asking.{state, ResolvesConflict, EndsSearch}
use Rattle.proof_log.specs.Theories.{TheoryView}
use Rattle.search_loop.specs.Search.{images}
use Rattle.search_loop.specs.Rounds.{HasDerived, BeganAfter, HasWholeClauses, Continues, ShowsAnswer}
use Rattle.search_loop.proofs.SearchReady.{Ids}
use Rattle.search_loop.proofs.SearchAppends.{appends_same, appends_on}
use Rattle.search_loop.proofs.SearchApart.{apart_on}

-- the log, the clauses and what was learned are the same
pub continues_same : (t : TableView) (x y : Search) → y.log ≡ x.log → y.store.clauses ≡ x.store.clauses → y.budget ≡ x.budget → y.trail.vars ≡ x.trail.vars → y.terms ≡ x.terms → y.since ≡ x.since → y.store.steps ≡ x.store.steps → y.atoms ≡ x.atoms → Continues t t x y
continues_same t x y log clauses budget vars terms since steps atoms = record {
  table = Extends-self t;
  declared = refl;
  limit = ap (λ (b : BudgetView). b.limit) budget;
  more = [];
  learned = ap (λ (b : BudgetView). b.learned) budget ∙ sym (append-nil x.budget.learned);
  vars = vars;
  terms = terms;
  appended = appends_same x y log (record { clauses = clauses; steps = steps }) terms atoms;
  search = λ problem earlier s. record {
    roots = s.roots;
    roots_in = s.roots_in;
    interface = s.interface;
    interface_in = s.interface_in;
    meant = s.meant;
    answered = s.answered;
    listed = subst (λ (ids : Ids). AreSearchTerms t problem ids.items) (sym terms) s.listed;
    derived = subst (λ (l : List Logged). HasDerived problem (derivation_in t l) (images t y.store.clauses) earlier (images t y.budget.learned)) (sym log)
        (subst (λ (cs : List (List Lit)). HasDerived problem (derivation_in t x.log) (images t cs) earlier (images t y.budget.learned)) (sym clauses)
        (subst (λ (b : BudgetView). HasDerived problem (derivation_in t x.log) (images t x.store.clauses) earlier (images t b.learned)) (sym budget) s.derived));
    began = subst (λ (l : List Logged). BeganAfter problem y.since (derivation_in t l) earlier) (sym log)
        (subst (λ (n : ℕ). BeganAfter problem n (derivation_in t x.log) earlier) (sym since) s.began);
    whole = subst (λ (l : List Logged). HasWholeClauses problem (derivation_in t l) (images t y.store.clauses)) (sym log)
        (subst (λ (cs : List (List Lit)). HasWholeClauses problem (derivation_in t x.log) (images t cs)) (sym clauses) s.whole);
  };
  apart = λ problem earlier s a. apart_on t t x y (λ c i. subst (λ (cs : List (List Lit)). Contains (images t cs) c) (sym clauses) i) problem earlier a (ap (λ (b : BudgetView). images t b.learned) budget);
}

-- one after the other
pub continues_on : (s t u : TableView) (a b c : Search) → Continues s t a b → Continues t u b c → Continues s u a c
continues_on s t u a b c h k = record {
  table = Extends-trans s t u h.table k.table;
  declared = k.declared ∙ h.declared;
  limit = k.limit ∙ h.limit;
  more = h.more ++ k.more;
  learned = k.learned ∙ ap (λ (ls : List (List Lit)). ls ++ k.more) h.learned ∙ append_assoc a.budget.learned h.more k.more;
  vars = k.vars ∙ h.vars;
  terms = k.terms ∙ h.terms;
  appended = appends_on a b c h.appended k.appended;
  search = λ problem earlier x. k.search problem earlier (h.search problem earlier x);
  apart = λ problem earlier x e. k.apart problem earlier (h.search problem earlier x) (h.apart problem earlier x e);
}

-- propagation went on, and it was looked for a decision
abbrev pub propagated : Search → StoreView → TrailView → List Bool → Search
propagated x s v ws = record x { store = s; trail = v; decider = ws }

module _ (t u : TableView) (a x : Search) (s : StoreView) (v : TrailView) (h : Continues t u a x) (same : HasSameClauses x.store s) (adds : AddsImplied x.store x.trail v) where
  pub propagated_on : (ws : List Bool) → Continues t u a (propagated x s v ws)
  propagated_on ws = continues_on t u u a x (propagated x s v ws) h (continues_same u x (propagated x s v ws) refl same.clauses refl adds.vars refl refl same.steps refl)

  pub decided_on : (l : Lit) (r : Option ℕ) (n : ℕ) (w : TrailView) (ws : List Bool) → IsPushed v l r n w → Continues t u a (propagated x s w ws)
  decided_on l r n w ws p = continues_on t u u a (propagated x s v ws) (propagated x s w ws) (propagated_on ws) (continues_same u (propagated x s v ws) (propagated x s w ws) refl refl refl p.vars refl refl refl refl)

-- what an answer shows later on, it shows of the beginning
pub shows_on : (s t u : TableView) (a b c : Search) (x : Answer) → Continues s t a b → ShowsAnswer t u b c x → ShowsAnswer s u a c x
shows_on s t u a b c x h shows problem earlier z e = shows problem earlier (h.search problem earlier z) (h.apart problem earlier z e)

-- so it is with what comes of a conflict that ends the search
pub ends_on : (s t u : TableView) (a b c : Search) (v : TheoryView) (search_saturated : Type 0) (end : End) → Continues s t a b → ResolvesConflict (state t b) (state u c) v (Some end) → EndsSearch (state s a) (state u c) search_saturated end
ends_on s t u a b c v search_saturated Saturated h resolves_conflict = absurd resolves_conflict
ends_on s t u a b c v search_saturated (Refuted step) h resolves_conflict = shows_on s t u a b c (Unsat step) h resolves_conflict
ends_on s t u a b c v search_saturated (Stopped reason) h resolves_conflict = shows_on s t u a b c (Unknown reason) h resolves_conflict

-- a round that learns a clause leaves less
pub less_learned : (limit later_limit n vars len later before after : ℕ) → later_limit ≡ limit → vars ≡ n → len < limit → later ≡ len + 1 → after ≤ n
    → (later_limit - later) * (vars + 1) + after < (limit - len) * (n + 1) + before
less_learned limit later_limit n vars len later before after same size lt e le =
    let left : limit - len ≡ (limit - later) + 1 = omega (arith, lt, e) in
    rw (same, size, left) (omega (arith, le))

-- and so does one that assigns a variable more
pub less_assigned : (left n vars before after : ℕ) → vars ≡ n → before < after → after ≤ vars → left * (vars + 1) + (vars - after) < left * (n + 1) + (n - before)
less_assigned left n vars before after size lt le = rw size (omega (arith, lt, le, size))
