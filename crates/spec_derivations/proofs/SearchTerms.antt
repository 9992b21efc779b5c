-- Which terms a search speaks of, and that its clauses are over them.
use Rattle.std.proofs.Common.{◌≡◌, ◌≢◌, Bool, true, false, cond, List, [], ◌∷◌, ◌++◌, map, All, Contains, ◌⊎◌, inl, inr, refl, sym, ap, ◌∙◌, subst}
use Rattle.std.specs.Prelude.{flat_map}
use Rattle.std.specs.List.{AllByRecursion}
use Rattle.std.proofs.lemmas.Bool.{false≢true}
use Rattle.std.proofs.lemmas.List.Elements.{All-contains, All-contains_itself, All-from_recursion, All-weaker, Contains-append_left, Contains-append_right, Contains-append_cases}
use Rattle.spec_text.proofs.Members.{first, later, cases, none, only, in_flat, from_flat}
use Rattle.spec_sorts.specs.Terms.{Sort, Truth, Symbol, True, False, Not, Ite, Equal, Term, app, nil, cons, of, pair, negated, same_sort, sort_of, second_sort, same_term, same_terms, head_takes}
use Rattle.spec_sorts.specs.WellSorted.{IsWellSorted, IsFormulaOver}
use Rattle.spec_sorts.specs.Subterms.{with_subterms, with_all_subterms, subterms_of}
use Rattle.spec_sorts.specs.Subsets.{arguments_of, AreAmong, IsClosed}
use Rattle.spec_sorts.specs.Literals.{Clause, Literal, literal_of, literals_of}
use Rattle.spec_sorts.proofs.WellSorted.{same_sort_itself, before}
use Rattle.spec_sorts.proofs.LeastSubterms.{least_of}
use Rattle.spec_derivations.specs.Problems.{Problem, terms_of_problem, subterms_in, known_terms, known_subterms}
use Rattle.spec_derivations.specs.Base.{clauses_of, base_clauses, truth_facts, branch_equalities, choice_clauses, spoken_terms, search_terms, defining_clauses, search_clauses}
use Rattle.spec_derivations.specs.Spent.{IsAtomOf, subterm, with_first, with_second}
use Rattle.spec_derivations.proofs.Below.{subterms_have, argument_sorted, head_fits}
use Rattle.spec_derivations.proofs.Over.{base_over}
use Rattle.spec_derivations.proofs.Defining.{defining_over}

-- The equality of a choice of another sort than Bool with one of its branches.
pub record IsBranchOf (w u : Term) : Type 0 where
  -- the condition and the branches
  pub c : Term
  pub s : Term
  pub t : Term
  -- the choice is of these
  pub choice : w ≡ of Ite (c ∷ s ∷ t ∷ [])
  -- its sort is another one
  pub other : sort_of s ≢ Truth
  -- it is equal to a branch
  pub equality : (u ≡ pair Equal w s) ⊎ (u ≡ pair Equal w t)

pub branch_of : (w u : Term) → Contains (branch_equalities w) u → IsBranchOf w u
branch_of (app Ite (cons c (cons s (cons t nil)))) u i = go (same_sort Truth (sort_of s)) refl i
  where
    w : Term
    w = of Ite (c ∷ s ∷ t ∷ [])

    go : (b : Bool) → same_sort Truth (sort_of s) ≡ b → Contains (cond b [] (pair Equal w s ∷ pair Equal w t ∷ [])) u → IsBranchOf w u
    go true e h = absurd (none u h)
    go false e h = record {
      c = c;
      s = s;
      t = t;
      choice = refl;
      other = λ f. false≢true (sym e ∙ ap (same_sort Truth) f);
      equality = elim (cases (pair Equal w s) (pair Equal w t ∷ []) u h) [ inl f ↦ inl (sym f) | inr k ↦ inr (sym (only (pair Equal w t) u k)) ];
    }
branch_of _ u i = absurd (none u i)

-- the terms of the two facts
abbrev fact_terms : List Term
fact_terms =
    pair Equal (negated (of True [])) (of False []) ∷ negated (of True []) ∷ pair Equal (negated (of False [])) (of True []) ∷ of True [] ∷ negated (of False []) ∷ of False [] ∷ []

fact_terms_are : subterms_of truth_facts ≡ fact_terms
unfolding with_subterms with_all_subterms same_term same_terms
fact_terms_are = refl

module _ (P : Term → Type 0) where
  -- what each of them has, the subterms of the facts have
  facts_have : AllByRecursion P fact_terms → (u : Term) → Contains (subterms_of truth_facts) u → P u
  facts_have each u i = All-contains P fact_terms u (All-from_recursion P fact_terms each) (subst (λ us. Contains us u) fact_terms_are i)

-- none of them is a choice
fact_branches : (w u : Term) → Contains (subterms_of truth_facts) w → Contains (branch_equalities w) u → ⊥
fact_branches w u i = facts_have (λ w. Contains (branch_equalities w) u → ⊥) (none u, (none u, (none u, (none u, (none u, (none u, tt)))))) w i

-- a term that stands for itself is a truth value or a fact
abbrev IsBare : Term → Type 0
IsBare t = literal_of t ≡ record { atom = t; positive = true } → t ≢ of True [] → t ≢ of False [] → (Contains truth_facts t → ⊥) → ⊥

pub no_negation : (t u : Term) → literal_of t ≡ record { atom = u; positive = false } → literal_of t ≡ record { atom = t; positive = true } → ⊥
no_negation t u e f = false≢true (ap (λ (l : Literal). l.positive) (sym e ∙ f))

-- so is each term of the facts
facts_bare : AllByRecursion IsBare fact_terms
unfolding literal_of
facts_bare =
    let a = pair Equal (negated (of True [])) (of False []) in
    let b = pair Equal (negated (of False [])) (of True []) in (
      λ l n m k. k (first a (b ∷ [])),
      (
        λ l n m k. no_negation (negated (of True [])) (of True []) refl l,
        (
          λ l n m k. k (later a (b ∷ []) b (first b [])),
          (λ l n m k. n refl, (λ l n m k. no_negation (negated (of False [])) (of False []) refl l, (λ l n m k. m refl, tt))),
        ),
      ),
    )

-- Why a search speaks of a term.
pub data IsSpoken (p : Problem) : Term → Type 0 where
  -- it is a subterm of the check's terms, or of the interface equalities
  below : (u : Term) → Contains (known_subterms p) u → IsSpoken p u
  -- or of the two facts
  of_facts : (u : Term) → Contains (subterms_of truth_facts) u → IsSpoken p u
  -- or the equality of a choice among these subterms with a branch
  of_branch : (w u : Term) → Contains (known_subterms p) w → IsBranchOf w u → IsSpoken p u

module _ (p : Problem) where
  abbrev rest : List Term
  rest = truth_facts ++ flat_map branch_equalities (known_subterms p)

  abbrev closed_in : (ts : List Term) → IsClosed (subterms_of ts)
  closed_in ts = (least_of ts).closed

  spoken_below : (t : Term) → IsSpoken p t → (u : Term) → Contains (arguments_of t) u → IsSpoken p u
  spoken_below t (below _ i) u j = below u (closed_in (known_terms p) t i u j)
  spoken_below t (of_facts _ i) u j = of_facts u (closed_in truth_facts t i u j)
  spoken_below t (of_branch w _ i b) u j = elim b.equality [ inl e ↦ side b.s s_in e | inr e ↦ side b.t t_in e ]
    where
      there : (v : Term) → Contains (b.c ∷ b.s ∷ b.t ∷ []) v → IsSpoken p v
      there v k = below v (closed_in (known_terms p) w i v (subst (λ x. Contains (arguments_of x) v) (sym b.choice) k))

      s_in : IsSpoken p b.s
      s_in = there b.s (later b.c (b.s ∷ b.t ∷ []) b.s (first b.s (b.t ∷ [])))

      t_in : IsSpoken p b.t
      t_in = there b.t (later b.c (b.s ∷ b.t ∷ []) b.t (later b.s (b.t ∷ []) b.t (first b.t [])))

      side : (v : Term) → IsSpoken p v → t ≡ pair Equal w v → IsSpoken p u
      side v h e = elim (cases w (v ∷ []) u (subst (λ x. Contains (arguments_of x) u) e j)) [
        | inl f ↦ subst (IsSpoken p) f (below w i)
        | inr k ↦ subst (IsSpoken p) (only v u k) h
      ]

  spoken_each : (t : Term) → Contains (spoken_terms p) t → IsSpoken p t
  spoken_each t i = elim (Contains-append_cases (known_terms p) rest t i) [
    | inl here ↦ below t ((least_of (known_terms p)).there t here)
    | inr more ↦ elim (Contains-append_cases truth_facts (flat_map branch_equalities (known_subterms p)) t more) [
      | inl fact ↦ of_facts t ((least_of truth_facts).there t fact)
      | inr branch ↦ let w = from_flat branch_equalities (known_subterms p) t branch in of_branch w.0 t w.1 (branch_of w.0 t w.2)
    ]
  ]

  -- each term of which a search speaks comes from one of these
  pub spoken : (t : Term) → Contains (search_terms p) t → IsSpoken p t
  spoken = subterms_have (IsSpoken p) spoken_below (spoken_terms p) (All-weaker (Contains (spoken_terms p)) (IsSpoken p) spoken_each (spoken_terms p) (All-contains_itself (spoken_terms p)))

  in_search : (t : Term) → Contains (spoken_terms p) t → Contains (search_terms p) t
  in_search = (least_of (spoken_terms p)).there

  -- a search speaks of the known subterms
  pub known_spoken : AreAmong (known_subterms p) (search_terms p)
  known_spoken = (least_of (known_terms p)).least (search_terms p) (λ t i. in_search t (Contains-append_left (known_terms p) rest t i)) (closed_in (spoken_terms p))

  -- the check's subterms are among them
  pub subterms_known : AreAmong (subterms_in p) (known_subterms p)
  subterms_known = (least_of (terms_of_problem p)).least (known_subterms p)
      (λ t i. (least_of (known_terms p)).there t (Contains-append_right p.interface (terms_of_problem p) t i)) (closed_in (known_terms p))

  pub subterms_spoken : AreAmong (subterms_in p) (search_terms p)
  subterms_spoken t i = known_spoken t (subterms_known t i)

  -- it speaks of the two facts
  pub facts_spoken : AreAmong truth_facts (search_terms p)
  facts_spoken t i = in_search t (Contains-append_right (known_terms p) rest t (Contains-append_left truth_facts (flat_map branch_equalities (known_subterms p)) t i))

  -- and of the equalities of its choices, which are all among the known subterms
  pub equalities_spoken : (w u : Term) → Contains (search_terms p) w → Contains (branch_equalities w) u → Contains (search_terms p) u
  equalities_spoken w u i j = go w (spoken w i) j
    where
      there : (v : Term) → Contains (known_subterms p) v → Contains (branch_equalities v) u → Contains (search_terms p) u
      there v k l = in_search u (Contains-append_right (known_terms p) rest u (Contains-append_right truth_facts (flat_map branch_equalities (known_subterms p)) u (in_flat branch_equalities (known_subterms p) v u k l)))

      no_branches : (v x : Term) → Contains (branch_equalities (pair Equal v x)) u → ⊥
      no_branches v x l = none u l

      go : (v : Term) → IsSpoken p v → Contains (branch_equalities v) u → Contains (search_terms p) u
      go v (below _ k) l = there v k l
      go v (of_facts _ k) l = absurd (fact_branches v u k l)
      go v (of_branch x _ k b) l = elim b.equality [
        | inl e ↦ absurd (no_branches x b.s (subst (λ y. Contains (branch_equalities y) u) e l))
        | inr e ↦ absurd (no_branches x b.t (subst (λ y. Contains (branch_equalities y) u) e l))
      ]

  -- the terms of which a search speaks that stand for themselves, but for the truth values and the two facts, are atoms of the check
  pub spoken_atoms : (u : Term) → Contains (search_terms p) u → sort_of u ≡ Truth → (literal_of u ≡ record { atom = u; positive = true })
      → u ≢ of True [] → u ≢ of False [] → (Contains truth_facts u → ⊥) → IsAtomOf p u
  spoken_atoms u i sorted itself not_true not_false not_fact = go (spoken u i)
    where
      go : IsSpoken p u → IsAtomOf p u
      go (below _ k) = subterm u k sorted not_true not_false
      go (of_facts _ k) = absurd (facts_have IsBare facts_bare u k itself not_true not_false not_fact)
      go (of_branch w _ k h) =
          let there : Contains (known_subterms p) (of Ite (h.c ∷ h.s ∷ h.t ∷ [])) = subst (λ x. Contains (known_subterms p) x) h.choice k in
          elim h.equality [
            | inl e ↦ subst (IsAtomOf p) (ap (λ x. pair Equal x h.s) (sym h.choice) ∙ sym e) (with_first h.c h.s h.t there h.other)
            | inr e ↦ subst (IsAtomOf p) (ap (λ x. pair Equal x h.t) (sym h.choice) ∙ sym e) (with_second h.c h.s h.t there h.other)
          ]

module _ (symbols : List Symbol) where
  facts_sorted : (t : Term) → Contains (subterms_of truth_facts) t → IsWellSorted symbols [] t
  unfolding sort_of second_sort
  facts_sorted = facts_have (IsWellSorted symbols []) each
    where
      yes : IsWellSorted symbols [] (of True [])
      yes = before symbols [] True [] refl tt tt

      no : IsWellSorted symbols [] (of False [])
      no = before symbols [] False [] refl tt tt

      opposite : (t : Term) → sort_of t ≡ Truth → IsWellSorted symbols [] t → IsWellSorted symbols [] (negated t)
      opposite t e w = before symbols [] Not (t ∷ []) (ap (λ s. head_takes [] Not (s ∷ [])) e) tt (w, tt)

      equal : (t u : Term) → sort_of t ≡ Truth → sort_of u ≡ Truth → IsWellSorted symbols [] t → IsWellSorted symbols [] u → IsWellSorted symbols [] (pair Equal t u)
      equal t u e f w x = before symbols [] Equal (t ∷ u ∷ []) ((λ i. same_sort (e i) (f i)) ∙ refl) tt (w, (x, tt))

      each : AllByRecursion (IsWellSorted symbols []) fact_terms
      each = (
        equal (negated (of True [])) (of False []) refl refl (opposite (of True []) refl yes) no,
        (
          opposite (of True []) refl yes,
          (
            equal (negated (of False [])) (of True []) refl refl (opposite (of False []) refl no) yes,
            (yes, (opposite (of False []) refl no, (no, tt))),
          ),
        ),
      )

  -- the branches of a choice have one sort
  branches_sort : (a b d : Sort) → head_takes [] Ite (a ∷ b ∷ d ∷ []) ≡ true → same_sort b d ≡ true
  branches_sort Truth b d h = h
  branches_sort _ b d h = absurd (false≢true h)

  branch_sorted : (w u : Term) → IsWellSorted symbols [] w → IsBranchOf w u → IsWellSorted symbols [] u
  unfolding sort_of second_sort
  branch_sorted w u sorted b = elim b.equality [ inl e ↦ side b.s (same_sort_itself (sort_of b.s)) s_in e | inr e ↦ side b.t both t_in e ]
    where
      choice : Term
      choice = of Ite (b.c ∷ b.s ∷ b.t ∷ [])

      choice_sorted : IsWellSorted symbols [] choice
      choice_sorted = subst (IsWellSorted symbols []) b.choice sorted

      both : same_sort (sort_of b.s) (sort_of b.t) ≡ true
      both = branches_sort (sort_of b.c) (sort_of b.s) (sort_of b.t) (head_fits symbols [] Ite (cons b.c (cons b.s (cons b.t nil))) choice_sorted)

      s_in : Contains (arguments_of choice) b.s
      s_in = later b.c (b.s ∷ b.t ∷ []) b.s (first b.s (b.t ∷ []))

      t_in : Contains (arguments_of choice) b.t
      t_in = later b.c (b.s ∷ b.t ∷ []) b.t (later b.s (b.t ∷ []) b.t (first b.t []))

      side : (v : Term) → same_sort (sort_of b.s) (sort_of v) ≡ true → Contains (arguments_of choice) v → u ≡ pair Equal w v → IsWellSorted symbols [] u
      side v same i e = subst (IsWellSorted symbols []) (ap (λ x. pair Equal x v) (sym b.choice) ∙ sym e)
          (before symbols [] Equal (choice ∷ v ∷ []) same tt (choice_sorted, (argument_sorted symbols [] choice choice_sorted v i, tt)))

  -- of terms over symbols a search speaks of well-sorted terms
  pub spoken_sorted : (p : Problem) → All (IsFormulaOver symbols) (known_terms p) → (t : Term) → Contains (search_terms p) t → IsWellSorted symbols [] t
  spoken_sorted p formulas t i = go t (spoken p t i)
    where
      subterm_sorted : (u : Term) → Contains (known_subterms p) u → IsWellSorted symbols [] u
      subterm_sorted = subterms_have (IsWellSorted symbols []) (argument_sorted symbols []) (known_terms p) (All-weaker (IsFormulaOver symbols) (IsWellSorted symbols []) (λ u h. h.term) (known_terms p) formulas)

      go : (u : Term) → IsSpoken p u → IsWellSorted symbols [] u
      go u (below _ k) = subterm_sorted u k
      go u (of_facts _ k) = facts_sorted u k
      go u (of_branch w _ k b) = branch_sorted w u (subterm_sorted w k) b

module _ (p : Problem) where
  -- each literal of a clause with which a search begins is over a term of which it speaks
  pub search_over : (c : Clause) (l : Literal) → Contains (search_clauses p) c → Contains (literals_of c) l → Contains (search_terms p) l.atom
  search_over c l i j = elim (Contains-append_cases (map (λ t. t ∷ []) p.asserted) (flat_map defining_clauses (search_terms p)) c i) [
    | inl root ↦ subterms_spoken p l.atom (base_over (λ ts. (least_of ts).there) (λ ts. (least_of ts).closed) p c l (Contains-append_left (map (λ t. t ∷ []) p.asserted) (flat_map clauses_of (subterms_in p)) c root) j)
    | inr sub ↦
        let t = from_flat defining_clauses (search_terms p) c sub in
        defining_over (search_terms p) (least_of (spoken_terms p)).closed (equalities_spoken p) t.0 t.1 c l t.2 j
  ]

  -- the base clauses are among them
  pub base_in_search : (c : Clause) → Contains (base_clauses p) c → Contains (search_clauses p) c
  base_in_search c i = elim (Contains-append_cases (map (λ t. t ∷ []) p.asserted) (flat_map clauses_of (subterms_in p)) c i) [
    | inl root ↦ Contains-append_left (map (λ t. t ∷ []) p.asserted) (flat_map defining_clauses (search_terms p)) c root
    | inr sub ↦
        let t = from_flat clauses_of (subterms_in p) c sub in
        Contains-append_right (map (λ t. t ∷ []) p.asserted) (flat_map defining_clauses (search_terms p)) c
        (in_flat defining_clauses (search_terms p) t.0 c (subterms_spoken p t.0 t.1) (Contains-append_left (clauses_of t.0) (choice_clauses t.0) c t.2))
  ]
