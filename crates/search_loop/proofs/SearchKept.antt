-- That a search goes on with the clause of a step of its log in the store.
use Rattle.std.proofs.Common.{◌≡◌, ℕ, ◌<◌, List, [], ◌∷◌, ◌++◌, length, get_or, take, map, All, Contains, inl, inr, refl, sym, ap, ◌∙◌, subst}
use Rattle.std.specs.Prelude.{None}
use Rattle.std.proofs.lemmas.List.{append-nil, length-map, map-append}
use Rattle.std.proofs.lemmas.List.Elements.{All-contains, All-push, Contains-append_left, Contains-get_or, Contains-push_cases}
use Rattle.spec_sorts.specs.Literals.{Literal, literals_of}
use Rattle.spec_derivations.specs.Problems.{Problem}
use Rattle.spec_derivations.specs.Derivations.{conclusion_at}
use Rattle.term_core.specs.declared.ids.TermId.{TermId}
use Rattle.term_core.specs.declared.ids.Lit.{Lit}
use Rattle.term_core.specs.Tables.{TableView, literal_at, clause_at}
use Rattle.term_core.proofs.TermsExtend.{Extends-self}
use Rattle.clause_literals.specs.Literals.{lit_complement}
use Rattle.clause_literals.specs.Statuses.{PropagatesNothing}
use Rattle.proof_log.specs.declared.premises.StepId.{StepId}
use Rattle.proof_log.specs.Logs.{named, logged_at, derivation_in}
use Rattle.proof_log.specs.Clashes.{IsClash}
use Rattle.proof_log.proofs.Logged.{conclusion_there}
use Rattle.clause_store.specs.Stores.{StoreView, HasSeen, IsAdded}
use Rattle.clause_store.specs.Propagating.{AreImplied}
use Rattle.search_loop.specs.declared.search.Search.{Search}
use Rattle.search_loop.specs.Waiting.{AreOfAtoms}
use Rattle.search_loop.specs.Search.{images, AreDecided, AreCovered, SearchFits}
use Rattle.search_loop.specs.Rounds.{HasDerived, IsSearch, Continues}
use Rattle.search_loop.proofs.SearchLists.{in_table, meant}
use Rattle.search_loop.proofs.SearchDecisions.{decided_wider}
use Rattle.search_loop.proofs.SearchStored.{derives_with}
use Rattle.search_loop.proofs.SearchLogs.{derived_stored}
use Rattle.search_loop.proofs.SearchApart.{apart_on}
use Rattle.search_loop.proofs.SearchAppends.{front_same, appends_stored}

module _ (t : TableView) (x : Search) (r : SearchFits t x) (step : StepId) (held : List Lit) (clash : IsClash t x.log held step) (of_atoms : AreOfAtoms x.atoms.items held)
    (s : StoreView) (a : IsAdded t x.log step x.store s) where
  -- the clause is over the atoms
  atom_of : (m : Lit) → Contains a.clause m → Contains x.atoms.items m.term
  atom_of m i = of_atoms (lit_complement m) (clash.fails m (record {
    in_table = in_table t a.clause (clause_at t (named (logged_at x.log step))) a.means m i;
    there = meant t a.clause (clause_at t (named (logged_at x.log step))) a.means m i;
  }))

  covers : AreCovered x.atoms.items (x.store.clauses ++ a.clause ∷ [])
  covers c m i j = elim (Contains-push_cases x.store.clauses a.clause c i) [
    | inl was ↦ r.covered c m was j
    | inr is ↦ atom_of m (subst (λ (e : List Lit). Contains e m) (sym is) j)
  ]

  -- so its terms are variables
  known_of : All (λ (m : Lit). m.term.0 < x.trail.vars) a.clause
  known_of k e lt =
      let m = get_or a.clause k e in
      All-contains (λ (id : TermId). id.0 < x.trail.vars) x.terms.items m.term r.variables (r.atoms_are.chosen.among m.term (atom_of m (Contains-get_or a.clause k e lt)))

  -- what the search has fits together, where nothing followed from the clause before each decision
  pub ready_kept : ((p : ℕ) → p < length x.trail.literals → get_or x.trail.reasons p None ≡ None → PropagatesNothing (take p x.trail.literals) a.clause) → HasSeen s x.trail → AreImplied s x.trail → SearchFits t (record x { store = s })
  ready_kept stays_quiet seen implied = record {
    right = r.right;
    derives = derives_with t x.log step x.store s r.derives a clash.in_log;
    known = subst (All (All (λ (m : Lit). m.term.0 < x.trail.vars))) (sym a.clauses) (All-push (All (λ (m : Lit). m.term.0 < x.trail.vars)) x.store.clauses a.clause r.known known_of);
    seen = seen;
    implied = implied;
    decided = subst (λ (cs : List (List Lit)). AreDecided x.atoms.items cs x.trail) (sym a.clauses) (decided_wider x.atoms.items x.store.clauses a.clause x.trail stays_quiet r.decided);
    atoms_are = r.atoms_are;
    variables = r.variables;
    covered = subst (AreCovered x.atoms.items) (sym a.clauses) covers;
    waiting = r.waiting;
    sized = r.sized;
    learned = r.learned;
  }

  -- the clause is last
  image : images t s.clauses ≡ images t x.store.clauses ++ literals_of (conclusion_at (derivation_in t x.log) step.0) ∷ []
  image = ap (images t) a.clauses ∙ map-append (map (literal_at t)) x.store.clauses (a.clause ∷ [])
      ∙ ap (λ (c : List Literal). images t x.store.clauses ++ c ∷ []) (a.means.same ∙ ap literals_of (sym (conclusion_there t x.log step clash.in_log)))

  still : (c : List Literal) → Contains (images t x.store.clauses) c → Contains (images t s.clauses) c
  still c i = subst (λ (cs : List (List Literal)). Contains cs c) (sym image)
      (Contains-append_left (images t x.store.clauses) (literals_of (conclusion_at (derivation_in t x.log) step.0) ∷ []) c i)

  search_kept : (problem : Problem) (earlier : List (List Literal)) → IsSearch t problem earlier x → IsSearch t problem earlier (record x { store = s })
  search_kept problem earlier z = record {
    roots = z.roots;
    roots_in = z.roots_in;
    interface = z.interface;
    interface_in = z.interface_in;
    meant = z.meant;
    answered = z.answered;
    listed = z.listed;
    derived = subst (λ (cs : List (List Literal)). HasDerived problem (derivation_in t x.log) cs earlier (images t x.budget.learned)) (sym image)
        (derived_stored problem (derivation_in t x.log) (images t x.store.clauses) earlier (images t x.budget.learned) z.derived step.0 (rw length-map clash.in_log));
    began = z.began;
    whole = record { base = λ c i. still (literals_of c) (z.whole.base c i); stated = z.whole.stated };
  }

  -- it goes on
  pub continues_kept : Continues t t x (record x { store = s })
  continues_kept = record { table = Extends-self t; declared = refl; limit = refl; more = []; learned = sym (append-nil x.budget.learned); vars = refl; terms = refl; appended = appends_stored t x.log step x (record x { store = s }) (front_same x.log x.log refl) a refl refl; search = search_kept; apart = λ problem earlier z a. apart_on t t x (record x { store = s }) still problem earlier a refl }
