-- That a search that speaks of nothing fits together.
use Rattle.std.proofs.Common.{◌≡◌, ◌<◌, ℕ, List, [], Bool, length, All, refl, sym, ap, ◌∙◌, subst, arith}
use Rattle.std.proofs.lemmas.List.Elements.{All-nil}
use Rattle.spec_text.proofs.Members.{none}
use Rattle.term_core.specs.declared.ids.TermId.{TermId}
use Rattle.term_core.specs.declared.ids.Lit.{Lit}
use Rattle.term_core.specs.Tables.{TableView}
use Rattle.clause_literals.specs.Literals.{AreLiteralsIn}
use Rattle.proof_log.specs.Logs.{Logged, IsLogOf}
use Rattle.proof_log.specs.Theories.{IsTermIn, IsAtomIn}
use Rattle.sat_budget.specs.Budgets.{BudgetView}
use Rattle.sat_budget.specs.declared.limits.Limits.{Limits}
use Rattle.sat_trail.specs.Trails.{TrailView, unassigned, empty as no_trail}
use Rattle.clause_store.specs.Stores.{StoreView, empty as no_clauses, LiteralsAreBelow, HasSeen}
use Rattle.clause_store.specs.Propagating.{AreImplied}
use Rattle.search_loop.specs.declared.search.Search.{Search}
use Rattle.search_loop.specs.Waiting.{AreWaiting}
use Rattle.search_loop.specs.Search.{AreAllOf, DerivesClauses, AreDecided, AreAtomsOf, AreCovered, SearchFits}
use Rattle.search_loop.specs.Growing.{IsEmptySearch}
use Rattle.search_loop.proofs.SearchWaiting.{waiting_none}

-- no clause is derived
derives_none : (t : TableView) (log : List Logged) → DerivesClauses t log no_clauses
derives_none t log = record { paired = refl; there = λ k lt. absurd (omega (arith, lt)); same = λ k lt. absurd (omega (arith, lt)) }

-- no literal is decided
pub decided_none : (atoms : List TermId) (clauses : List (List Lit)) (vars : ℕ) → AreDecided atoms clauses (unassigned vars)
decided_none atoms clauses vars = record { quiet = λ p lt no. absurd (omega (arith, lt)); of_atoms = λ p lt no. absurd (omega (arith, lt)) }

-- there is no atom
atoms_none : (t : TableView) → AreAtomsOf t [] []
atoms_none t = record {
  there = All-nil (IsTermIn t);
  closed = λ w i. absurd (none w i);
  once = λ i j d lt small. absurd (omega (arith, small));
  chosen = record { each = λ id i a. i; among = λ id i. i; only = All-nil (IsAtomIn t) };
}

-- with no limit but this
abbrev pub budget_of : Limits → BudgetView
budget_of limits = record { limit = limits.conflicts; learned = []; exchanges = [] }

module _ (begun : (s : StoreView) (v : TrailView) → v.propagated ≡ 0 → HasSeen s v) (implied : (s : StoreView) → AreImplied s no_trail) (right : (t : TableView) → IsLogOf t [])
    (limits : Limits) (x : Search) (log : x.log ≡ []) (store : x.store ≡ no_clauses) (trail : x.trail ≡ no_trail) (terms : x.terms.items ≡ []) (atoms : x.atoms.items ≡ []) (decider : x.decider ≡ []) (budget : x.budget ≡ budget_of limits) (fed : x.fed ≡ 0) (since : x.since ≡ 0) where
  fits : (t : TableView) → SearchFits t x
  fits t = record {
    right = subst (IsLogOf t) (sym log) (right t);
    derives = subst (DerivesClauses t x.log) (sym store) (derives_none t x.log);
    known = subst (λ (s : StoreView). LiteralsAreBelow s x.trail.vars) (sym store) (All-nil (All (λ (l : Lit). l.term.0 < x.trail.vars)));
    seen = begun x.store x.trail (ap (λ (v : TrailView). v.propagated) trail);
    implied = subst (AreImplied x.store) (sym trail) (implied x.store);
    decided = subst (AreDecided x.atoms.items x.store.clauses) (sym trail) (decided_none x.atoms.items x.store.clauses 0);
    atoms_are = subst (λ (ids : List TermId). AreAtomsOf t ids x.atoms.items) (sym terms) (subst (AreAtomsOf t []) (sym atoms) (atoms_none t));
    variables = subst (All (λ (id : TermId). id.0 < x.trail.vars)) (sym terms) (All-nil (λ (id : TermId). id.0 < x.trail.vars));
    covered = subst (λ (s : StoreView). AreCovered x.atoms.items s.clauses) (sym store) (λ c l i j. absurd (none c i));
    waiting = subst (λ (ids : List TermId). AreWaiting ids x.trail.literals x.decider) (sym atoms) (subst (λ (ws : List Bool). AreWaiting [] x.trail.literals ws) (sym decider) (waiting_none x.trail.literals));
    sized = ap (λ (ws : List Bool). length ws) decider ∙ sym (ap (λ (v : TrailView). v.vars) trail);
    learned = subst (AreAllOf t) (sym (ap (λ (b : BudgetView). b.learned) budget)) (All-nil (AreLiteralsIn t));
  }

  pub empty_search : IsEmptySearch limits x
  empty_search = record {
    blank = record { log = log; clauses = ap (λ (s : StoreView). s.clauses) store; terms = terms; learned = ap (λ (b : BudgetView). b.learned) budget; since = since };
    ready = fits;
    empty = ap (λ (v : TrailView). v.literals) trail;
    level = ap (λ (v : TrailView). v.level) trail;
    fed = fed;
    limit_is = ap (λ (b : BudgetView). b.limit) budget;
    unspent = ap (λ (b : BudgetView). b.exchanges) budget;
  }
