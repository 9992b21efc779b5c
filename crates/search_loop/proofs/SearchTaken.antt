-- That a search goes on where lemmas of its theory came into its log.
use Rattle.std.proofs.Common.{◌≡◌, ℕ, ◌+◌, ◌-◌, ◌*◌, ◌<◌, ◌≤◌, Bool, true, false, List, length, All, Contains, sym, ap, ◌∙◌, subst, arith}
use Rattle.std.specs.Prelude.{MatchBool}
use Rattle.std.proofs.lemmas.List.Elements.{All-take, Contains-get_or}
use Rattle.spec_sorts.specs.Subsets.{IsClosed}
use Rattle.term_core.specs.declared.ids.TermId.{TermId}
use Rattle.term_core.specs.declared.ids.Lit.{Lit}
use Rattle.term_core.specs.Tables.{TableView, Extends, clause_at}
use Rattle.term_core.proofs.TermsExtend.{clause_at-kept}
use Rattle.sat_budget.specs.Budgets.{BudgetView}
use Rattle.proof_log.specs.Logs.{Logged}
use Rattle.proof_log.specs.Theories.{TheoryView, IsTermIn, IsAtomIn, IsTheoryOver, terms_watched, literals_held, DerivesLemmas}
use Rattle.clause_store.specs.Propagating.{IsPropagated}
use Rattle.search_loop.specs.declared.search.Search.{Search}
use Rattle.search_loop.specs.Search.{SearchFits}
use Rattle.search_loop.specs.Rounds.{Continues}
use Rattle.search_loop.specs.Asking.{IsAsked}
use Rattle.search_loop.specs.Paying.{counted_held}
use Rattle.search_loop.proofs.SearchLists.{lits_kept}
use Rattle.search_loop.proofs.SearchReady.{Ids, atom_in, all_of_atoms}
use Rattle.search_loop.proofs.SearchGrown.{continues_derived, ready_derived}
use Rattle.search_loop.proofs.SearchPays.{held_stay, held_among}
use Rattle.search_loop.proofs.SearchRounds.{less_assigned}

module _ (t : TableView) (x : Search) (r : SearchFits t x) (v : TheoryView) (asked : IsAsked v x) where
  -- a theory that the search asks is over its table
  pub over_its : IsTheoryOver t v
  over_its = record {
    terms = subst (All (IsTermIn t)) (sym asked.terms) r.atoms_are.there;
    closed = subst (λ (ids : List TermId). IsClosed (clause_at t ids)) (sym asked.terms) r.atoms_are.closed;
    atoms = subst (All (λ (l : Lit). IsAtomIn t l.term)) (sym asked.keeps.front)
        (All-take (λ (l : Lit). IsAtomIn t l.term) (length v.held) x.trail.literals (λ k d lt. atom_in t x r _ (all_of_atoms t x r _ (Contains-get_or x.trail.literals k d lt))));
  }

  module _ (u : TableView) (log : List Logged) (came : DerivesLemmas (terms_watched t v) (record { table = t; log = x.log }) (record { table = u; log = log })) where
    its : DerivesLemmas (clause_at t x.terms.items) (record { table = t; log = x.log }) (record { table = u; log = log })
    its = subst (λ (ids : List TermId). DerivesLemmas (clause_at t ids) (record { table = t; log = x.log }) (record { table = u; log = log })) asked.terms came

    -- its lemmas are for the search's terms
    pub ready_its : SearchFits u (record x { log = log })
    ready_its = ready_derived t u x r log its

    pub continues_its : Continues t u x (record x { log = log })
    continues_its = continues_derived t u x r log its

    -- what it watches and holds means what it did
    pub terms_its : terms_watched u v ≡ terms_watched t v
    terms_its = clause_at-kept t u came.table v.watched (λ k e lt. (over_its.terms k e lt).0)

    pub literals_its : literals_held u v ≡ literals_held t v
    literals_its = lits_kept t u came.table v.held (λ k e lt. (over_its.atoms k e lt).0.0)

-- with one literal more there are more than before, where there were, and where the log alone was changed
pub holds_more : (x y z : Search) (implied : Bool) → MatchBool implied (length x.trail.literals < length y.trail.literals) (y ≡ record x { log = y.log })
    → length z.trail.literals ≡ length y.trail.literals + 1 → length x.trail.literals < length z.trail.literals
holds_more x y z true h more = omega (arith, h, more)
holds_more x y z false h more = omega (arith, more, ap (λ (s : Search). length s.trail.literals) h)

-- where the log alone was changed, nothing follows still, and the theory holds all that holds
module _ (x y : Search) (is : y ≡ record x { log = y.log }) where
  pub quiet_still : IsPropagated x.store.clauses x.trail.literals → IsPropagated y.store.clauses y.trail.literals
  quiet_still quiet = subst (λ (s : Search). IsPropagated s.store.clauses s.trail.literals) (sym is) quiet

  pub all_held : (v w : TheoryView) → w ≡ v → v.held ≡ x.trail.literals → w.held ≡ y.trail.literals
  all_held v w same all = ap (λ (z : TheoryView). z.held) same ∙ all ∙ ap (λ (s : Search). s.trail.literals) (sym is)

-- what a theory holds are as many atoms of linear arithmetic as before
pub held_since : (t q : TableView) (x : Search) → SearchFits t x → Extends t q → (u : TableView) (y : Search) → SearchFits u y → (v : TheoryView) → IsAsked v y → y.terms ≡ x.terms
    → (ls : List Lit) → ls ≡ v.held → counted_held q ls ≡ counted_held t v.held
held_since t q x r g u y ready v asked terms ls same = ap (counted_held q) same
    ∙ held_stay t x r q g v.held (λ d i. subst (λ (ids : Ids). Contains ids.items d.term) terms (held_among u y ready v asked d i))

-- a round that assigns a variable more leaves less, whatever exchanges were made
pub less_by : (a b : BudgetView) (es : List (ℕ × ℕ)) (n vars before after : ℕ) → b ≡ record a { exchanges = es } → vars ≡ n → before < after → after ≤ vars
    → (b.limit - length b.learned) * (vars + 1) + (vars - after) < (a.limit - length a.learned) * (n + 1) + (n - before)
less_by a b es n vars before after is size lt le = subst (λ (z : BudgetView). (z.limit - length z.learned) * (vars + 1) + (vars - after) < (a.limit - length a.learned) * (n + 1) + (n - before)) (sym is)
    (less_assigned (a.limit - length a.learned) n vars before after size lt le)
