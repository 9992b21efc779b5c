-- That what a search has fits together: after propagation, with a decision more, and where a clause was learned.
use Rattle.std.proofs.Common.{◌≡◌, ℕ, ◌<◌, ◌≤◌, Bool, List, [], ◌∷◌, ◌++◌, length, get_or, All, Contains, inl, inr, refl, sym, ap, ◌∙◌, subst, arith}
use Rattle.std.specs.Prelude.{Option, Some, None, Vec}
use Rattle.std.specs.declared.alloc.Global.{Global}
use Rattle.std.proofs.lemmas.List.Elements.{All-push, All-contains, Contains-get_or, Contains-append_left, Contains-push_cases}
use Rattle.spec_proofs.specs.declared.Rule.TheVariants.{Resolution}
use Rattle.term_core.specs.declared.ids.TermId.{TermId}
use Rattle.term_core.specs.declared.ids.Lit.{Lit}
use Rattle.term_core.specs.Tables.{TableView, IsIn, AreDifferent, Extends, clause_at}
use Rattle.clause_literals.specs.Literals.{AreLiteralsIn, LiteralsMean}
use Rattle.clause_literals.proofs.LiteralLists.{decide}
use Rattle.proof_log.specs.declared.premises.StepId.{StepId}
use Rattle.proof_log.specs.Logs.{Logged, stepped, named, IsLogOf}
use Rattle.proof_log.specs.Theories.{IsAtomIn}
use Rattle.sat_budget.specs.Budgets.{BudgetView}
use Rattle.sat_trail.specs.Trails.{TrailView, no_lit, VariablesAreApart, IsLeveled, IsPushed, IsCutTo}
use Rattle.clause_store.specs.Stores.{HasSeen, HasSameClauses, IsAdded}
use Rattle.clause_store.specs.Propagating.{AddsImplied, AreImplied, IsPropagated}
use Rattle.conflict_learn.specs.Conflicts.{IsFalseAt}
use Rattle.conflict_learn.specs.Learned.{IsLearned}
use Rattle.conflict_learn.specs.declared.learned.Learned.{Learned}
use Rattle.conflict_learn.proofs.Places.{place_of}
use Rattle.search_loop.specs.declared.search.Search.{Search}
use Rattle.search_loop.specs.Waiting.{AreOfAtoms, AreWaiting}
use Rattle.search_loop.specs.Search.{AreAllOf, DerivesClauses, AreDecided, AreAtomsOf, AreCovered, SearchFits, conflict_of}
use Rattle.search_loop.specs.Rounds.{IsNoted}
use Rattle.search_loop.proofs.SearchLists.{means_one, of_kept}
use Rattle.search_loop.proofs.SearchLevels.{leveled_before, decided_cut}
use Rattle.search_loop.proofs.SearchWaiting.{waiting_held}
use Rattle.search_loop.proofs.SearchStored.{derives_same, implied_same, derives_with, derives_on, last_is, longer}
use Rattle.search_loop.proofs.SearchDecisions.{decided_propagated, decided_more, decided_learned}

-- numbers of terms, as the code has them
abbrev pub Ids : Type 0
Ids = Vec TermId Global

-- propagation went on
pub ready_propagated : (t : TableView) (x y : Search) → SearchFits t x → y.log ≡ x.log → y.budget ≡ x.budget → y.decider ≡ x.decider → y.terms ≡ x.terms → y.atoms ≡ x.atoms → HasSameClauses x.store y.store → HasSeen y.store y.trail
    → AreImplied x.store y.trail → AddsImplied x.store x.trail y.trail → SearchFits t y
ready_propagated t x y r log budget decider terms atoms same seen implied adds = record {
  right = subst (IsLogOf t) (sym log) r.right;
  derives = subst (λ (l : List Logged). DerivesClauses t l y.store) (sym log) (derives_same x.store y.store same t x.log r.derives);
  known = subst (λ (cs : List (List Lit)). All (All (λ (l : Lit). l.term.0 < y.trail.vars)) cs) (sym same.clauses)
      (subst (λ (n : ℕ). All (All (λ (l : Lit). l.term.0 < n)) x.store.clauses) (sym adds.vars) r.known);
  seen = seen;
  implied = implied_same x.store y.store same y.trail implied;
  decided = subst (λ (ids : Ids). AreDecided ids.items y.store.clauses y.trail) (sym atoms)
      (subst (λ (cs : List (List Lit)). AreDecided x.atoms.items cs y.trail) (sym same.clauses) (decided_propagated x.atoms.items x.store x.trail y.trail r.implied.paired adds r.decided));
  atoms_are = subst (λ (ids : Ids). AreAtomsOf t ids.items y.atoms.items) (sym terms) (subst (λ (ids : Ids). AreAtomsOf t x.terms.items ids.items) (sym atoms) r.atoms_are);
  variables = subst (λ (ids : Ids). All (λ (id : TermId). id.0 < y.trail.vars) ids.items) (sym terms) (subst (λ (k : ℕ). All (λ (id : TermId). id.0 < k) x.terms.items) (sym adds.vars) r.variables);
  covered = subst (λ (cs : List (List Lit)). AreCovered y.atoms.items cs) (sym same.clauses) (subst (λ (ids : Ids). AreCovered ids.items x.store.clauses) (sym atoms) r.covered);
  waiting = subst (λ (ids : Ids). AreWaiting ids.items y.trail.literals y.decider) (sym atoms)
      (subst (AreWaiting x.atoms.items y.trail.literals) (sym decider)
      (subst (λ (ls : List Lit). AreWaiting x.atoms.items ls x.decider) (sym adds.literals)
      (waiting_held x.atoms.items x.trail.literals (x.trail.literals ++ adds.more) x.decider (λ l i. Contains-append_left x.trail.literals adds.more l i) r.waiting)));
  sized = ap length decider ∙ r.sized ∙ sym adds.vars;
  learned = subst (λ (b : BudgetView). AreAllOf t b.learned) (sym budget) r.learned;
}

-- variables were taken from the order that have a value
pub ready_waiting : (t : TableView) (x : Search) (ws : List Bool) → SearchFits t x → AreWaiting x.atoms.items x.trail.literals ws → length ws ≡ length x.decider → SearchFits t (record x { decider = ws })
ready_waiting t x ws r waiting size = record {
  right = r.right;
  derives = r.derives;
  known = r.known;
  seen = r.seen;
  implied = r.implied;
  decided = r.decided;
  atoms_are = r.atoms_are;
  variables = r.variables;
  covered = r.covered;
  waiting = waiting;
  sized = size ∙ r.sized;
  learned = r.learned;
}

-- a literal was decided
pub ready_decided : (t : TableView) (x : Search) (v : TrailView) (ws : List Bool) (l : Lit) (n : ℕ) → SearchFits t x → IsPushed x.trail l None n v → HasSeen x.store v → AreImplied x.store v
    → IsPropagated x.store.clauses x.trail.literals → Contains x.atoms.items l.term → AreWaiting x.atoms.items (x.trail.literals ++ l ∷ []) ws → length ws ≡ length x.decider → SearchFits t (record x { trail = v; decider = ws })
ready_decided t x v ws l n r pushed seen implied quiet of_atoms waiting size = record {
  right = r.right;
  derives = r.derives;
  known = subst (λ (n : ℕ). All (All (λ (l : Lit). l.term.0 < n)) x.store.clauses) (sym pushed.vars) r.known;
  seen = seen;
  implied = implied;
  decided = decided_more x.atoms.items x.store.clauses x.trail v l n r.implied.paired pushed quiet of_atoms r.decided;
  atoms_are = r.atoms_are;
  variables = subst (λ (k : ℕ). All (λ (id : TermId). id.0 < k) x.terms.items) (sym pushed.vars) r.variables;
  covered = r.covered;
  waiting = subst (λ (ls : List Lit). AreWaiting x.atoms.items ls ws) (sym pushed.literals) waiting;
  sized = size ∙ r.sized ∙ sym pushed.vars;
  learned = r.learned;
}

-- the literals of higher levels went
pub ready_cut : (t : TableView) (x : Search) (v : TrailView) (ws : List Bool) (k n : ℕ) → SearchFits t x → IsCutTo x.trail n v → HasSeen x.store v → AreImplied x.store v → AreWaiting x.atoms.items v.literals ws
    → length ws ≡ length x.decider → SearchFits t (record x { trail = v; decider = ws; fed = k })
ready_cut t x v ws k n r cut seen implied waiting size = record {
  right = r.right;
  derives = r.derives;
  known = subst (λ (n : ℕ). All (All (λ (l : Lit). l.term.0 < n)) x.store.clauses) (sym cut.vars) r.known;
  seen = seen;
  implied = implied;
  decided = decided_cut x.atoms.items x.store.clauses x.trail v n cut r.decided;
  atoms_are = r.atoms_are;
  variables = subst (λ (k : ℕ). All (λ (id : TermId). id.0 < k) x.terms.items) (sym cut.vars) r.variables;
  covered = r.covered;
  waiting = waiting;
  sized = size ∙ r.sized ∙ sym cut.vars;
  learned = r.learned;
}

-- the literal of a place on the trail is of an atom
pub atom_at : (t : TableView) (x : Search) → SearchFits t x → (p : ℕ) → p < length x.trail.literals → Contains x.atoms.items (get_or x.trail.literals p no_lit).term
atom_at t x r p lt = by (get_or x.trail.reasons p None) refl
  where
    by : (o : Option ℕ) → get_or x.trail.reasons p None ≡ o → Contains x.atoms.items (get_or x.trail.literals p no_lit).term
    by None e = r.decided.of_atoms p lt e
    by (Some n) e = let i = r.implied.implied p n lt e in r.covered (get_or x.store.clauses i.number []) (get_or x.trail.literals p no_lit) (Contains-get_or x.store.clauses i.number [] i.there) i.has_it

-- so is each literal that holds
pub all_of_atoms : (t : TableView) (x : Search) → SearchFits t x → AreOfAtoms x.atoms.items x.trail.literals
all_of_atoms t x r l i = let p = place_of x.trail.literals l i in subst (λ (m : Lit). Contains x.atoms.items m.term) p.2 (atom_at t x r p.0 p.1)

-- atoms are formulas of the table and no negations
pub atom_in : (t : TableView) (x : Search) → SearchFits t x → (id : TermId) → Contains x.atoms.items id → IsAtomIn t id
atom_in t x r id c = All-contains (IsAtomIn t) x.atoms.items id r.atoms_are.chosen.only c

-- what the clauses are over is of the table
pub clauses_in : (t : TableView) (x : Search) → SearchFits t x → (c : List Lit) (l : Lit) → Contains x.store.clauses c → Contains c l → IsIn t l.term
clauses_in t x r c l i j = (atom_in t x r l.term (r.covered c l i j)).0.0

-- and so is what holds
pub held_in : (t : TableView) (x : Search) → SearchFits t x → (l : Lit) → Contains x.trail.literals l → IsIn t l.term
held_in t x r l i = (atom_in t x r l.term (all_of_atoms t x r l i)).0.0

-- what is learned from a conflict
module _ (t u : TableView) (x : Search) (r : SearchFits t x) (clash : StepId) (log : List Logged) (d : Learned) (l : IsLearned (conflict_of t x clash) u log d) where
  -- its literals are false, each since a level above 0
  pub false_at : (m : Lit) → Contains d.clause m → (n : ℕ) × IsFalseAt x.trail m n × (0 < n)
  false_at m i = elim (decide m l.one.one) [
    | inl e ↦ (l.level, subst (λ (k : Lit). IsFalseAt x.trail k l.level) (sym e) l.one.of_level, l.above)
    | inr ne ↦ let b = l.one.below m i ne in (b.0, b.1, b.2)
  ]

  -- and of atoms
  pub atom_of : (m : Lit) → Contains d.clause m → Contains x.atoms.items m.term
  atom_of m i =
      let f = (false_at m i).1 in
      subst (λ (k : Lit). Contains x.atoms.items k.term) f.there (atom_at t x r f.place f.within)

-- it comes into the store
module _ (t u : TableView) (g : Extends t u) (differ : AreDifferent u.terms) (x y : Search) (r : SearchFits t x) (clash : StepId) (d : Learned) (l : IsLearned (conflict_of t x clash) u y.log d)
    (noted : IsNoted d.clause x.budget y.budget) (a : IsAdded u y.log d.step x.store y.store) where
  -- the store has it as it was learned
  pub clause_is : a.clause ≡ d.clause
  clause_is =
      let x_is = last_is x.log y.log (stepped Resolution l.logged.premises [] l.logged.terms) l.logged.last d.step l.logged.number in
      means_one u differ a.clause d.clause (clause_at u l.logged.terms) (subst (λ (z : Logged). LiteralsMean u a.clause (clause_at u (named z))) x_is a.means) l.logged.means

  known_of : ((l : Lit) → Contains x.trail.literals l → l.term.0 < x.trail.vars) → All (λ (m : Lit). m.term.0 < x.trail.vars) d.clause
  known_of held k e lt =
      let f = (false_at t u x r clash y.log d l (get_or d.clause k e) (Contains-get_or d.clause k e lt)).1 in
      subst (λ (l : Lit). l.term.0 < x.trail.vars) f.there (held (get_or x.trail.literals f.place no_lit) (Contains-get_or x.trail.literals f.place no_lit f.within))

  more_clauses : y.store.clauses ≡ x.store.clauses ++ d.clause ∷ []
  more_clauses = a.clauses ∙ ap (λ (c : List Lit). x.store.clauses ++ c ∷ []) clause_is

  covers : AreCovered x.atoms.items (x.store.clauses ++ d.clause ∷ [])
  covers c m i j = elim (Contains-push_cases x.store.clauses d.clause c i) [
    | inl was ↦ r.covered c m was j
    | inr is ↦ atom_of t u x r clash y.log d l m (subst (λ (e : List Lit). Contains e m) (sym is) j)
  ]

  -- at its level, or back at a lower one
  pub ready_learned : (n : ℕ) → n ≤ d.level → IsCutTo x.trail n y.trail → VariablesAreApart x.trail.literals → IsLeveled x.trail → ((l : Lit) → Contains x.trail.literals l → l.term.0 < x.trail.vars) → HasSeen y.store y.trail → AreImplied y.store y.trail
      → y.terms ≡ x.terms → y.atoms ≡ x.atoms → AreAtomsOf u x.terms.items x.atoms.items → AreWaiting x.atoms.items y.trail.literals y.decider → length y.decider ≡ length x.decider → SearchFits u y
  ready_learned n low cut once leveled held seen implied terms atoms atoms_are waiting size = record {
    right = l.logged.right;
    derives = derives_with u y.log d.step x.store y.store
        (derives_on t u g x.log y.log (stepped Resolution l.logged.premises [] l.logged.terms ∷ []) l.logged.last x.store r.right r.derives) a
        (omega (arith, l.logged.number, longer x.log y.log (stepped Resolution l.logged.premises [] l.logged.terms) l.logged.last));
    known = subst (λ (cs : List (List Lit)). All (All (λ (z : Lit). z.term.0 < y.trail.vars)) cs) (sym more_clauses)
        (subst (λ (n : ℕ). All (All (λ (z : Lit). z.term.0 < n)) (x.store.clauses ++ d.clause ∷ [])) (sym cut.vars)
        (All-push (All (λ (z : Lit). z.term.0 < x.trail.vars)) x.store.clauses d.clause r.known (known_of held)));
    seen = seen;
    implied = implied;
    decided = subst (λ (ids : Ids). AreDecided ids.items y.store.clauses y.trail) (sym atoms) (subst (λ (cs : List (List Lit)). AreDecided x.atoms.items cs y.trail) (sym more_clauses)
        (decided_learned x.atoms.items x.store.clauses d.clause x.trail y.trail n leveled.levels_paired
        (λ p within none le. leveled_before x.trail once leveled p within none d.clause l.level d.level l.one (omega (arith, le, low))) cut r.decided));
    atoms_are = subst (λ (ids : Ids). AreAtomsOf u ids.items y.atoms.items) (sym terms) (subst (λ (ids : Ids). AreAtomsOf u x.terms.items ids.items) (sym atoms) atoms_are);
    variables = subst (λ (ids : Ids). All (λ (id : TermId). id.0 < y.trail.vars) ids.items) (sym terms) (subst (λ (k : ℕ). All (λ (id : TermId). id.0 < k) x.terms.items) (sym cut.vars) r.variables);
    covered = subst (λ (ids : Ids). AreCovered ids.items y.store.clauses) (sym atoms) (subst (AreCovered x.atoms.items) (sym more_clauses) covers);
    waiting = subst (λ (ids : Ids). AreWaiting ids.items y.trail.literals y.decider) (sym atoms) waiting;
    sized = size ∙ r.sized ∙ sym cut.vars;
    learned = subst (λ (b : BudgetView). AreAllOf u b.learned) (sym noted)
        (All-push (AreLiteralsIn u) x.budget.learned d.clause (λ k e lt. of_kept t u g (get_or x.budget.learned k e) (r.learned k e lt)) l.logged.means.there);
  }
