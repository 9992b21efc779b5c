-- Numbers of clauses: a set of them, and the clauses that they are of.
use Rattle.std.proofs.Common.{◌≡◌, ℕ, ◌+◌, ◌<◌, Bool, true, false, nat_eq, List, [], ◌∷◌, ◌++◌, length, map, get_or, take, All, Contains, inl, inr, refl, sym, ap, ◌∙◌, subst, if◌then◌else◌}
use Rattle.std.specs.Prelude.{◌↔◌}
use Rattle.std.specs.List.{list_any}
use Rattle.std.proofs.lemmas.List.{map_more, map_push, take_more}
use Rattle.std.proofs.lemmas.List.Elements.{All-contains, All-push, All-take, Contains-get_or, Contains-push, Contains-push_cases, Contains-append_left}
use Rattle.std.proofs.lemmas.Bool.{eqb-true}
use Rattle.indexmap.specs.IndexSet.{insert_key}
use Rattle.indexmap.proofs.CallerLemmas.{Contains-list_any}
use Rattle.spec_sorts.specs.Literals.{Clause}
use Rattle.term_core.specs.declared.ids.TermId.{TermId}
use Rattle.term_core.specs.Tables.{clause_at, IsIn, AreIn}
use Rattle.alethe_reader.specs.declared.proof_state.ProofState.{ProofState}
use Rattle.alethe_reader.specs.Holding.{clause_numbered, clauses_numbered, AreNumbers}
use Rattle.alethe_check.specs.Stating.{front_numbered, fronts_numbered, HasClauses}
use Rattle.spec_proofs.proofs.Chains.{mapped_within}

-- the same numbers are in both
abbrev SameNumbers : List ℕ → List ℕ → Type 0
SameNumbers xs ys = (k : ℕ) → Contains xs k ↔ Contains ys k

-- a number that comes into the set, or was in it
set_more : (old new front : List ℕ) (k : ℕ) → new ≡ insert_key nat_eq old k → SameNumbers old front → SameNumbers new (front ++ k ∷ [])
set_more old new front k e same = go (list_any (nat_eq k) old) refl
  where
    to : (xs ys : List ℕ) → ((m : ℕ) → Contains xs m → Contains ys m) → (m : ℕ) → Contains (xs ++ k ∷ []) m → Contains (ys ++ k ∷ []) m
    to xs ys h m i = elim (Contains-push_cases xs k m i) [ inl o ↦ Contains-append_left ys (k ∷ []) m (h m o) | inr is ↦ subst (λ x. Contains (ys ++ k ∷ []) x) is (Contains-push ys k) ]

    one : Contains old k → SameNumbers old (front ++ k ∷ [])
    one here m = (
      λ i. Contains-append_left front (k ∷ []) m ((same m).0 i),
      λ i. elim (Contains-push_cases front k m i) [ inl o ↦ (same m).1 o | inr is ↦ subst (λ x. Contains old x) is here ],
    )

    go : (b : Bool) → list_any (nat_eq k) old ≡ b → SameNumbers new (front ++ k ∷ [])
    go true t = subst (λ ks. SameNumbers ks (front ++ k ∷ [])) (sym (e ∙ ap (λ c. if c then old else old ++ k ∷ []) t)) (one (Contains-list_any nat_eq eqb-true old k t))
    go false t = subst (λ ks. SameNumbers ks (front ++ k ∷ [])) (sym (e ∙ ap (λ c. if c then old else old ++ k ∷ []) t)) (λ m. (to old front (λ n. (same n).0) m, to front old (λ n. (same n).1) m))

pub taken_more : (old new numbers : List ℕ) (i d : ℕ) → i < length numbers → new ≡ insert_key nat_eq old (get_or numbers i d) → SameNumbers old (take i numbers) → SameNumbers new (take (i + 1) numbers)
taken_more old new numbers i d lt e same = subst (λ ks. SameNumbers new ks) (sym (take_more numbers i d lt)) (set_more old new (take i numbers) (get_or numbers i d) e same)

module _ (h : ProofState) (numbers : List ℕ) (i d : ℕ) (copies new : List (List TermId)) (c : List TermId) (lt : i < length numbers) (there : AreNumbers h numbers)
    (at : c ≡ get_or h.clauses.items (get_or numbers i d) []) (e : new ≡ copies ++ c ∷ []) where
  -- a copied clause is that of its number
  pub copies_more : map (clause_at h.table) copies ≡ clauses_numbered h (take i numbers) → map (clause_at h.table) new ≡ clauses_numbered h (take (i + 1) numbers)
  copies_more same = ap (map (clause_at h.table)) e ∙ map_push (clause_at h.table) copies c ∙ (λ j. same j ++ clause_at h.table (at j) ∷ []) ∙ sym (map_more (clause_numbered h) numbers i d lt)

  pub copies_there : HasClauses h → All (λ p. AreIn h.table p) copies → All (λ p. AreIn h.table p) new
  copies_there sound all = subst (λ (ps : List (List TermId)). All (λ p. AreIn h.table p) ps) (sym e)
      (All-push (λ p. AreIn h.table p) copies c all (subst (λ (ids : List TermId). AreIn h.table ids) (sym at) (sound (get_or numbers i d) [] (there i d lt))))

module _ (h : ProofState) (numbers : List ℕ) (i d : ℕ) (copies new : List (List TermId)) (c : List TermId) (lt : i < length numbers) (there : AreNumbers h numbers)
    (at : c ≡ take 2 (get_or h.clauses.items (get_or numbers i d) [])) (e : new ≡ copies ++ c ∷ []) where
  -- a copied beginning is that of its number's clause
  pub fronts_more : map (clause_at h.table) copies ≡ fronts_numbered h (take i numbers) → map (clause_at h.table) new ≡ fronts_numbered h (take (i + 1) numbers)
  fronts_more same = ap (map (clause_at h.table)) e ∙ map_push (clause_at h.table) copies c ∙ (λ j. same j ++ clause_at h.table (at j) ∷ []) ∙ sym (map_more (front_numbered h) numbers i d lt)

  pub fronts_there : HasClauses h → All (λ p. AreIn h.table p) copies → All (λ p. AreIn h.table p) new
  fronts_there sound all = subst (λ (ps : List (List TermId)). All (λ p. AreIn h.table p) ps) (sym e)
      (All-push (λ p. AreIn h.table p) copies c all (subst (λ (ids : List TermId). AreIn h.table ids) (sym at) (All-take (λ id. IsIn h.table id) 2 (get_or h.clauses.items (get_or numbers i d) []) (sound (get_or numbers i d) [] (there i d lt)))))

module _ (h : ProofState) (slice set numbers : List ℕ) (e : slice ≡ set) (same : SameNumbers set numbers) where
  -- each number taken is that of a clause
  pub numbers_taken : AreNumbers h numbers → AreNumbers h slice
  numbers_taken all k d lt = All-contains (λ n. n < length h.clauses.items) numbers (get_or slice k d) all ((same (get_or slice k d)).0 (subst (λ xs. Contains xs (get_or slice k d)) e (Contains-get_or slice k d lt)))

  -- the clauses of the numbers taken are the clauses of all
  pub clauses_taken : (copies : List (List TermId)) → map (clause_at h.table) copies ≡ clauses_numbered h slice
      → (c : Clause) → Contains (map (clause_at h.table) copies) c ↔ Contains (clauses_numbered h numbers) c
  clauses_taken copies s c =
      let all : map (clause_at h.table) copies ≡ clauses_numbered h set = s ∙ ap (clauses_numbered h) e in (
        λ i. mapped_within (clause_numbered h) set numbers (λ k. (same k).0) c (subst (λ (cs : List Clause). Contains cs c) all i),
        λ i. subst (λ (cs : List Clause). Contains cs c) (sym all) (mapped_within (clause_numbered h) numbers set (λ k. (same k).1) c i),
      )
