-- What is learned from a conflict is new and over atoms.
use Rattle.std.proofs.Common.{◌≡◌, ◌≢◌, ℕ, ◌<◌, ◌≤◌, Bool, true, false, List, [], ◌++◌, length, get_or, take, map, Contains, inl, inr, refl, sym, ◌∙◌, subst, arith}
use Rattle.std.specs.Prelude.{None}
use Rattle.std.proofs.lemmas.List.{get_or_default}
use Rattle.std.proofs.lemmas.List.Elements.{Contains-append_left, Contains-append_right, Contains-append_cases}
use Rattle.spec_text.proofs.Members.{from_image, none as no_element}
use Rattle.spec_sorts.specs.Literals.{Clause, Literal, complement, literals_of}
use Rattle.spec_derivations.specs.Problems.{Problem}
use Rattle.spec_derivations.specs.Derivations.{Derivation}
use Rattle.spec_derivations.specs.Orders.{whole_terms, whole_clauses, first_clauses}
use Rattle.spec_derivations.specs.Learned.{IsNew}
use Rattle.spec_derivations.specs.Spent.{IsAtomOf, at_start}
use Rattle.spec_derivations.proofs.Grown.{first_whole}
use Rattle.spec_derivations.proofs.Learned.{decide_literals}
use Rattle.spec_derivations.proofs.Quiet.{derived_holds}
use Rattle.term_core.specs.declared.ids.TermId.{TermId}
use Rattle.term_core.specs.declared.ids.Lit.{Lit}
use Rattle.term_core.specs.Tables.{TableView, IsIn, AreDifferent, term_at, literal_at}
use Rattle.clause_literals.specs.Literals.{lit_complement, IsConsistent}
use Rattle.sat_trail.specs.Trails.{no_lit, VariablesAreApart, IsLeveled}
use Rattle.clause_store.specs.Propagating.{IsPropagated}
use Rattle.proof_log.specs.declared.premises.StepId.{StepId}
use Rattle.conflict_learn.specs.Conflicts.{IsFalseAt, IsConflictLevel}
use Rattle.conflict_learn.specs.Learned.{HasOneAt}
use Rattle.conflict_learn.proofs.Places.{early_place}
use Rattle.search_loop.specs.declared.search.Search.{Search}
use Rattle.search_loop.specs.Search.{images, SearchFits, conflict_of}
use Rattle.search_loop.specs.Rounds.{HasDerived, HasWholeClauses, IsFact}
use Rattle.search_loop.proofs.SearchValues.{one_of_two}
use Rattle.search_loop.proofs.SearchLevels.{decision_of, open_before, not_before, false_before}
use Rattle.search_loop.proofs.SearchReady.{atom_at, atom_in, clauses_in, held_in}
use Rattle.search_loop.proofs.SearchNew.{image_back, quiet_images, consistent_images, new_at}
use Rattle.search_loop.proofs.SearchAtoms.{is_atom}

module _ (t : TableView) (differ : AreDifferent t.terms) (x : Search) (r : SearchFits t x) (once : VariablesAreApart x.trail.literals) (leveled : IsLeveled x.trail) (consistent : IsConsistent x.trail.literals)
    (problem : Problem) (d : Derivation) (earlier learned : List (List Literal)) (h : HasDerived problem d (images t x.store.clauses) earlier learned) (w : HasWholeClauses problem d (images t x.store.clauses)) where
  -- each clause that a search begins with, and what was learned, is a clause of the store
  from_store : (c : List Literal) → Contains (images t x.store.clauses) c → (e : List Lit) × Contains x.store.clauses e × (map (literal_at t) e ≡ c)
  from_store c i = from_image (map (literal_at t)) x.store.clauses c i

  from_search : (c : Clause) → Contains (whole_clauses problem) c → (e : List Lit) × Contains x.store.clauses e × (map (literal_at t) e ≡ literals_of c)
  from_search c i = from_store (literals_of c) (w.base c i)

  from_clauses : (c : List Literal) → Contains (at_start problem earlier ++ learned) c → (e : List Lit) × Contains x.store.clauses e × (map (literal_at t) e ≡ c)
  from_clauses c i = elim (Contains-append_cases (at_start problem earlier) learned c i) [
    | inl a ↦ elim (Contains-append_cases earlier (map literals_of (first_clauses problem)) c a) [
      | inl e ↦ from_store c (h.kept c (Contains-append_left earlier learned c e))
      | inr b ↦ let u = from_image literals_of (first_clauses problem) c b in let e = from_search u.0 (first_whole problem u.0 u.1) in (e.0, e.1, e.2 ∙ u.2)
    ]
    | inr l ↦ from_store c (h.kept c (Contains-append_right earlier learned c l))
  ]

  -- a clause is new whose literals but one are false before a decision
  module _ (p : ℕ) (within : p < length x.trail.literals) (none : get_or x.trail.reasons p None ≡ None) where
    in_all : (l : Lit) → Contains (take p x.trail.literals) l → Contains x.trail.literals l
    in_all l i = let e = early_place x.trail.literals p l (omega (arith, within)) i in (e.0, e.2, sym (get_or_default x.trail.literals e.0 no_lit l e.2) ∙ e.3)

    new_before : (clause : List Lit) (one : Lit) → IsIn t one.term → Contains clause one → (Contains (take p x.trail.literals) one → ⊥) → ((m : Lit) → Contains clause m → m ≢ one → Contains (take p x.trail.literals) (lit_complement m))
        → IsNew (at_start problem earlier ++ learned) (map (literal_at t) clause)
    new_before clause one one_in has_one not_held others = new_at t differ x.store.clauses (clauses_in t x r) (at_start problem earlier ++ learned) from_clauses
        (take p x.trail.literals) (λ l i. held_in t x r l (in_all l i)) (λ l i j. consistent l (in_all l i) (in_all (lit_complement l) j)) (r.decided.quiet p within none) clause one one_in has_one not_held others

  -- of a literal that is false since a level above 0
  module _ (m : Lit) (n : ℕ) (f : IsFalseAt x.trail m n) where
    of_atom : Contains x.atoms.items m.term
    of_atom = subst (λ (k : Lit). Contains x.atoms.items k.term) f.there (atom_at t x r f.place f.within)

    false_in : IsIn t m.term
    false_in = (atom_in t x r m.term of_atom).0.0

    topped : n ≤ x.trail.level
    topped = let le = leveled.topped f.place f.within in omega (arith, le, f.level)

    -- of a level above 0
    module _ (above : 0 < n) where
      -- before the level's decision
      decision : (p : ℕ) × (p < length x.trail.literals) × (get_or x.trail.reasons p None ≡ None) × (get_or x.trail.levels p 0 ≡ n)
      decision = decision_of x.trail once leveled n above topped

      abbrev front : List Lit
      front = take decision.0 x.trail.literals

      consistent_then : IsConsistent front
      consistent_then l i j = consistent l (in_all decision.0 decision.1 decision.2 l i) (in_all decision.0 decision.1 decision.2 (lit_complement l) j)

      quiet_then : IsPropagated x.store.clauses front
      quiet_then = r.decided.quiet decision.0 decision.1 decision.2

      -- its term has no value
      neither : (s : Bool) → Contains front (record { term = m.term; positive = s }) → ⊥
      neither s i = elim (one_of_two m s (λ (k : Lit). Contains front k) i) [
        | inl a ↦ not_before x.trail once leveled decision.0 decision.1 decision.2 consistent m n f a
        | inr b ↦ open_before x.trail once leveled decision.0 decision.1 decision.2 m n f (omega (arith, decision.3)) b
      ]

      -- the term is an atom
      pub atom_of : ((id : TermId) → Contains x.atoms.items id → Contains (whole_terms problem) (term_at t id)) → IsAtomOf problem (term_at t m.term)
      atom_of spoken =
          let own = atom_in t x r m.term of_atom in
          is_atom t differ problem x.store.clauses (clauses_in t x r) from_search front consistent_then quiet_then
          (record { term = m.term; positive = true }) false_in refl (neither true) (neither false) (spoken m.term of_atom) own.0.1.sort own.1

      -- and no fact, as all facts held there
      pub no_fact : IsFact (images t x.store.clauses) (term_at t m.term) → ⊥
      no_fact fact =
          let there : (l : Lit) → Contains front l → IsIn t l.term = λ l i. held_in t x r l (in_all decision.0 decision.1 decision.2 l i) in
          let one : Lit = record { term = m.term; positive = true } in
          let holds : Contains (map (literal_at t) front) (literal_at t one) =
          derived_holds complement decide_literals (images t x.store.clauses) [] (map (literal_at t) front)
          (quiet_images t differ front there x.store.clauses (clauses_in t x r) quiet_then (images t x.store.clauses) from_store)
          (consistent_images t differ front there consistent_then) (λ l i. absurd (no_element l i)) (literal_at t one) fact in
          neither true (image_back t differ front there one false_in holds)

  -- a clause with one literal of a level above 0 and others of levels below is new
  pub one_is_new : (clause : List Lit) (n level : ℕ) → HasOneAt x.trail clause n level → 0 < n → IsNew (at_start problem earlier ++ learned) (map (literal_at t) clause)
  one_is_new clause n level o above =
      let p = decision_of x.trail once leveled n above (topped o.one n o.of_level) in
      new_before p.0 p.1 p.2 clause o.one (false_in o.one n o.of_level) o.there (not_before x.trail once leveled p.0 p.1 p.2 consistent o.one n o.of_level)
      (λ m i ne. let b = o.below m i ne in false_before x.trail once leveled p.0 p.1 p.2 m b.0 b.1 (omega (arith, b.3, p.3)))

-- where a conflict has a level above 0, the search has one
pub level_above : (t : TableView) (x : Search) (clash : StepId) (n : ℕ) → IsLeveled x.trail → IsConflictLevel (conflict_of t x clash) n → 0 < n → 0 < x.trail.level
level_above t x clash n leveled h above = elim h.reached [
  | inl none ↦ absurd (omega (arith, none, above))
  | inr m ↦ let le = leveled.topped m.2.place m.2.within in omega (arith, le, m.2.level, above)
]
