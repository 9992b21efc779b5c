-- That a search fits together where a further check starts, and is asked what it was.
use Rattle.std.proofs.Common.{◌≡◌, ℕ, Bool, List, [], ◌++◌, length, All, refl, sym, ◌∙◌, subst, arith}
use Rattle.std.proofs.lemmas.List.{append-nil, length-map, take_all}
use Rattle.std.proofs.lemmas.List.Elements.{All-nil}
use Rattle.spec_sorts.specs.Literals.{Literal, complement}
use Rattle.spec_derivations.specs.Problems.{Problem}
use Rattle.spec_derivations.specs.Derivations.{Derivation}
use Rattle.spec_derivations.specs.ExactChains.{AreExactResolvents}
use Rattle.spec_derivations.specs.Inputs.{IsInput}
use Rattle.spec_derivations.specs.Spent.{IsLearnedFrom, IsOverAtoms}
use Rattle.spec_interfaces.specs.Interfaces.{StandsApart}
use Rattle.spec_proofs.specs.Resolution.{IsWithin}
use Rattle.term_core.specs.Tables.{TableView}
use Rattle.clause_literals.specs.Literals.{AreLiteralsIn}
use Rattle.proof_log.specs.Logs.{inference_of, derivation_in}
use Rattle.sat_budget.specs.declared.limits.Limits.{Limits}
use Rattle.sat_trail.specs.Trails.{TrailView, unassigned}
use Rattle.clause_store.specs.Stores.{StoreView, HasSeen}
use Rattle.clause_store.specs.Propagating.{AreImplied}
use Rattle.search_loop.specs.declared.search.Search.{Search}
use Rattle.search_loop.specs.declared.restarts.Restarts.{Restarts}
use Rattle.search_loop.specs.Waiting.{AreWaiting}
use Rattle.search_loop.specs.Search.{images, SearchFits}
use Rattle.search_loop.specs.Rounds.{AreSteps, ComesFrom, HasDerived, BeganAfter, IsSearch, HoldsApart}
use Rattle.search_loop.specs.Growing.{HasStarted}
use Rattle.search_loop.proofs.SearchEmpty.{budget_of, decided_none}

-- what was derived in earlier checks and in this one was so before a check that has learned nothing yet
pub derived_earlier : (p : Problem) (d : Derivation) (cs earlier ls : List (List Literal)) → HasDerived p d cs earlier ls → HasDerived p d cs (earlier ++ ls) []
derived_earlier p d cs earlier ls h =
    let all : earlier ++ ls ≡ (earlier ++ ls) ++ [] = sym (append-nil (earlier ++ ls)) in
    record {
      assumes = h.assumes;
      only = λ c i. subst (λ (ks : List (List Literal)). ComesFrom p d ks c) all (h.only c i);
      kept = subst (λ (ks : List (List Literal)). IsWithin ks cs) all h.kept;
      derived = subst (All (IsLearnedFrom p d)) all h.derived;
      atoms = subst (All (IsOverAtoms p)) all h.atoms;
      new = tt;
      exact = subst (AreExactResolvents complement (IsInput p d)) all h.exact;
      steps = subst (AreSteps p d) all h.steps;
    }

-- a check that begins after all steps has as earlier clauses all that were learned
pub began_now : (p : Problem) (n : ℕ) (d : Derivation) (earlier : List (List Literal)) → n ≡ length d → AreSteps p d earlier → BeganAfter p n d earlier
began_now p n d earlier is steps = record {
  there = omega (arith, is);
  steps = subst (λ (e : Derivation). AreSteps p e earlier) (sym (take_all n d (omega (arith, is)))) steps;
}

module _ (limits : Limits) (x : Search) (ws : List Bool) (restarts : Restarts) (n : ℕ) (now : n ≡ length x.log) where
  -- a further check of the search
  abbrev pub started : Search
  started = record x { trail = unassigned x.trail.vars; decider = ws; restarts = restarts; budget = budget_of limits; fed = 0; since = n }

  module _ (begun : (s : StoreView) (v : TrailView) → v.propagated ≡ 0 → HasSeen s v) (cleared : (s : StoreView) (v : TrailView) → v.literals ≡ [] → v.reasons ≡ [] → AreImplied s v)
      (size : length ws ≡ length x.decider) (waits : (t : TableView) → SearchFits t x → AreWaiting x.atoms.items [] ws) where
    ready_started : (t : TableView) → SearchFits t x → SearchFits t started
    ready_started t r = record {
      right = r.right;
      derives = r.derives;
      known = r.known;
      seen = begun x.store (unassigned x.trail.vars) refl;
      implied = cleared x.store (unassigned x.trail.vars) refl refl;
      decided = decided_none x.atoms.items x.store.clauses x.trail.vars;
      atoms_are = r.atoms_are;
      variables = r.variables;
      covered = r.covered;
      waiting = waits t r;
      sized = size ∙ r.sized;
      learned = All-nil (AreLiteralsIn t);
    }

    search_started : (t : TableView) (p : Problem) (earlier : List (List Literal)) → IsSearch t p earlier x → IsSearch t p (earlier ++ images t x.budget.learned) started
    search_started t p earlier s = record {
      roots = s.roots;
      roots_in = s.roots_in;
      interface = s.interface;
      interface_in = s.interface_in;
      meant = s.meant;
      answered = s.answered;
      listed = s.listed;
      derived = derived_earlier p (derivation_in t x.log) (images t x.store.clauses) earlier (images t x.budget.learned) s.derived;
      began = began_now p n (derivation_in t x.log) (earlier ++ images t x.budget.learned) (now ∙ sym (length-map x.log (inference_of t))) s.derived.steps;
      whole = s.whole;
    }

    apart_started : (t : TableView) (p : Problem) (earlier : List (List Literal)) → HoldsApart t p earlier x → HoldsApart t p (earlier ++ images t x.budget.learned) started
    apart_started t p earlier h = record {
      equalities = h.equalities;
      facts = h.facts;
      apart = subst (All (StandsApart p)) (sym (append-nil (earlier ++ images t x.budget.learned))) h.apart;
    }

    pub has_started : HasStarted limits x started
    has_started = record {
      fresh = record { empty = refl; level = refl; fed = refl; unlearned = refl; unspent = refl };
      limit_is = refl;
      log = refl;
      store = refl;
      terms = refl;
      atoms = refl;
      vars = refl;
      since = now;
      ready = ready_started;
      search = search_started;
      apart = apart_started;
    }
