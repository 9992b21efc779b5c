-- That a search fits together after propagation, and after a theory's check.
use Rattle.std.specs.Prelude.{Ok}
use Rattle.std.proofs.Common.{◌≡◌, ◌≤◌, ℕ, List, [], length, get_or, take, All, Contains, refl, sym, ap, ◌∙◌, subst, arith}
use Rattle.std.proofs.lemmas.List.{append-nil, length-append}
use Rattle.std.proofs.lemmas.List.Elements.{Contains-get_or}
use Rattle.spec_sorts.specs.Terms.{Term}
use Rattle.spec_sorts.specs.Subsets.{IsClosed}
use Rattle.spec_derivations.specs.Lemmas.{IsLemma}
use Rattle.term_core.specs.declared.ids.TermId.{TermId}
use Rattle.term_core.specs.declared.ids.Lit.{Lit}
use Rattle.spec_sorts.specs.Literals.{Literal}
use Rattle.term_core.specs.Tables.{TableView, Extends, clause_at}
use Rattle.term_core.proofs.TermsExtend.{Extends-self, clause_at-kept}
use Rattle.sat_budget.specs.Budgets.{BudgetView, Spends}
use Rattle.proof_log.specs.Logs.{Logged, inference_of, derivation_in}
use Rattle.proof_log.specs.Theories.{TheoryView, IsTermIn, IsTheoryOver, terms_watched, literals_held, DerivesLemmas, Checks}
use Rattle.proof_log.specs.declared.theory.Verdict.{Verdict}
use Rattle.proof_log.specs.declared.theory.Verdict.TheVariants.{Fine, Clash}
use Rattle.sat_trail.specs.Trails.{TrailView}
use Rattle.clause_store.specs.Stores.{StoreView, HasSeen, HasSameClauses}
use Rattle.clause_store.specs.Propagating.{AddsImplied, AreImplied, IsPropagated}
use Rattle.search_loop.specs.declared.search.Search.{Search}
use Rattle.search_loop.specs.Search.{SearchFits}
use Rattle.search_loop.specs.Rounds.{Continues}
use Rattle.search_loop.specs.Asking.{KeepsUp, IsAsked, state, HasLooked, HasStopped, LookFinds}
use Rattle.search_loop.proofs.SearchLists.{lits_kept}
use Rattle.search_loop.proofs.SearchReady.{ready_propagated, atom_in, all_of_atoms}
use Rattle.search_loop.proofs.SearchRounds.{propagated, continues_same, continues_on}
use Rattle.search_loop.proofs.SearchSpends.{spends_nothing, ready_spent, continues_spent}
use Rattle.search_loop.proofs.SearchGrown.{ready_grown, continues_grown}
use Rattle.search_loop.proofs.SearchTheories.{fed, keeps_propagated, keeps_fed}

module _ (t : TableView) (x : Search) (r : SearchFits t x) (v : TheoryView) (asked : IsAsked v x) (leveled : length x.trail.levels ≡ length x.trail.literals)
    (s : StoreView) (w : TrailView) (same : HasSameClauses x.store s) (seen : HasSeen s w) (implied : AreImplied x.store w) (adds : AddsImplied x.store x.trail w) where
  abbrev after : Search
  after = propagated x s w x.decider

  pub ready_after : SearchFits t after
  ready_after = ready_propagated t x after r refl refl refl refl refl same seen implied adds

  keeps_after : KeepsUp v w
  keeps_after = keeps_propagated v x.store x.trail w leveled r.implied.paired adds asked.keeps

  more_literals : length x.trail.literals ≤ length w.literals
  more_literals = omega (arith, ap length adds.literals, length-append x.trail.literals adds.more)

  pub looked_after : HasLooked (state t x) (state t after) v
  looked_after = record {
    ready = ready_after;
    continues = continues_same t x after refl same.clauses refl adds.vars refl refl same.steps refl;
    asked = record { keeps = keeps_after; terms = asked.terms; fed = asked.fed };
    budget = spends_nothing x.budget;
    literals = more_literals;
  }

  -- the theory can hold what holds
  pub fed_within : x.fed ≤ length w.literals
  fed_within = omega (arith, asked.fed, asked.keeps.within, more_literals)

  pub front_held : v.held ≡ take x.fed w.literals
  front_held = keeps_after.front ∙ ap (λ (n : ℕ). take n w.literals) (sym asked.fed)

  pub watches_held : (l : Lit) → Contains w.literals l → Contains v.watched l.term
  watches_held l i = subst (λ (ids : List TermId). Contains ids l.term) (sym asked.terms) (r.atoms_are.chosen.among l.term (all_of_atoms t after ready_after l i))

  pub is_over : IsTheoryOver t (fed v w.literals)
  is_over = record {
    terms = subst (All (IsTermIn t)) (sym asked.terms) r.atoms_are.there;
    closed = subst (λ (ids : List TermId). IsClosed (clause_at t ids)) (sym asked.terms) r.atoms_are.closed;
    atoms = λ k d lt. atom_in t after ready_after (get_or w.literals k d).term (all_of_atoms t after ready_after (get_or w.literals k d) (Contains-get_or w.literals k d lt));
  }

  ready_fed : (n : ℕ) → SearchFits t (record after { fed = n })
  ready_fed n = ready_grown t t (Extends-self t) refl after n x.log [] (sym (append-nil x.log)) r.right refl ready_after

  -- where its check stops, table and log are as they were
  pub stopped_checked : (b : BudgetView) → Spends x.budget b → (n : ℕ) → HasStopped (state t x) (state t (record after { log = x.log; fed = n; budget = b })) (fed v w.literals)
  stopped_checked b spends n = record {
    right = r.right;
    ready = ready_spent t (record after { fed = n }) b spends (ready_fed n);
    continues = continues_on t t t x after (record after { log = x.log; fed = n; budget = b }) looked_after.continues
        (continues_on t t t after (record after { fed = n }) (record after { log = x.log; fed = n; budget = b }) (continues_same t after (record after { fed = n }) refl refl refl refl refl refl refl refl)
        (continues_spent t (record after { fed = n }) b spends));
    terms = asked.terms;
  }

  -- and checks it
  module _ (u : TableView) (log : List Logged) (b : BudgetView) (spends : Spends x.budget b) (d : DerivesLemmas (terms_watched t (fed v w.literals)) (record { table = t; log = x.log }) (record { table = u; log = log })) (kept : derivation_in u x.log ≡ derivation_in t x.log) where
    abbrev checked : Search
    checked = record after { log = log; fed = length w.literals }

    abbrev spent : Search
    spent = record checked { budget = b }

    lemmas : All (λ (l : Logged). IsLemma (clause_at t x.terms.items) (derivation_in u log) (length x.log) (inference_of u l)) d.more
    lemmas = subst (λ (ids : List TermId). All (λ (l : Logged). IsLemma (clause_at t ids) (derivation_in u log) (length x.log) (inference_of u l)) d.more) asked.terms d.lemmas

    pub looked_checked : HasLooked (state t x) (state u spent) (fed v w.literals)
    looked_checked = record {
      ready = ready_spent u checked b spends (ready_grown t u d.table d.declared after (length w.literals) log d.more d.log d.right kept ready_after);
      continues = continues_on t u u x checked spent
          (continues_on t t u x after checked looked_after.continues (continues_grown t u d.table d.declared after (length w.literals) log d.more d.log d.right kept ready_after lemmas))
          (continues_spent u checked b spends);
      asked = record { keeps = keeps_fed v w keeps_after; terms = asked.terms; fed = refl };
      budget = spends;
      literals = more_literals;
    }

  -- so what the theory answers is what the look does
  module _ (u : TableView) (log : List Logged) (b : BudgetView) (spends : Spends x.budget b) (kept : Extends t u → derivation_in u x.log ≡ derivation_in t x.log)
      (agrees : List Term → List Literal → Type 0) (refuses : Type 0) (quiet : IsPropagated x.store.clauses w.literals) (n : ℕ) (all : n ≡ length w.literals) (v2 : TheoryView) (held : v2 ≡ fed v w.literals) where
    abbrev Checked : Verdict → Type 0
    Checked verdict = Checks (agrees (terms_watched t (fed v w.literals)) (literals_held t (fed v w.literals))) refuses (fed v w.literals) (record { table = t; log = x.log }) (Ok verdict) (record { table = u; log = log })

    abbrev Looked : Verdict → Type 0
    Looked verdict = LookFinds (state t x) (state u (record after { log = log; fed = n; budget = b })) v2 (agrees (terms_watched u v2) (literals_held u v2)) verdict

    terms_same : Extends t u → terms_watched u (fed v w.literals) ≡ terms_watched t (fed v w.literals)
    terms_same g = clause_at-kept t u g v.watched (λ k e lt. (is_over.terms k e lt).0)

    literals_same : Extends t u → literals_held u (fed v w.literals) ≡ literals_held t (fed v w.literals)
    literals_same g = lits_kept t u g w.literals (λ k e lt. (is_over.atoms k e lt).0.0)

    -- over the theory as it is now
    over_now : (verdict : Verdict) → LookFinds (state t x) (state u (record after { log = log; fed = length w.literals; budget = b })) (fed v w.literals) (agrees (terms_watched u (fed v w.literals)) (literals_held u (fed v w.literals))) verdict → Looked verdict
    over_now verdict h = subst (λ (k : ℕ). LookFinds (state t x) (state u (record after { log = log; fed = k; budget = b })) v2 (agrees (terms_watched u v2) (literals_held u v2)) verdict) (sym all)
        (subst (λ (z : TheoryView). LookFinds (state t x) (state u (record after { log = log; fed = length w.literals; budget = b })) z (agrees (terms_watched u z) (literals_held u z)) verdict) (sym held) h)

    pub looks : (verdict : Verdict) → Checked verdict → Looked verdict
    looks Fine h = over_now Fine (
      looked_checked u log b spends h.1 (kept h.1.table),
      subst (λ (cs : List (List Lit)). IsPropagated cs w.literals) (sym same.clauses) quiet,
      refl,
      subst (λ (ls : List Literal). agrees (terms_watched u (fed v w.literals)) ls) (sym (literals_same h.1.table))
          (subst (λ (ts : List Term). agrees ts (literals_held t (fed v w.literals))) (sym (terms_same h.1.table)) h.0),
    )
    looks (Clash step) h = over_now (Clash step) (looked_checked u log b spends h.1 (kept h.1.table), h.2)

-- what stopped in the rounds of a search stopped in the search
pub stopped_on : (t u w : TableView) (x y z : Search) (v : TheoryView) → Continues t u x y → HasStopped (state u y) (state w z) v → HasStopped (state t x) (state w z) v
stopped_on t u w x y z v on h = record { right = h.right; ready = h.ready; continues = continues_on t u w x y z on h.continues; terms = h.terms }
