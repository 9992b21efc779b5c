-- That a learned clause is over atoms of the terms: the truth values, the facts about them and the order facts have their values since level 0.
use Rattle.std.proofs.Common.{◌≡◌, ◌≢◌, ◌⊎◌, Bool, true, false, cond, List, [], ◌∷◌, map, Contains, inl, inr, refl, sym, ap, ◌∙◌, subst, arith}
use Rattle.std.specs.Prelude.{flat_map}
use Rattle.std.proofs.lemmas.List.Elements.{Contains-append_left, Contains-append_right}
use Rattle.spec_text.proofs.Members.{to_image, from_image, in_flat, from_flat, only, none, first, cases}
use Rattle.spec_sorts.specs.Terms.{True, False, Equal, AtMost, Truth, Number, Term, app, nil, cons, of, pair, negated, same_sort, sort_of}
use Rattle.spec_sorts.specs.Literals.{Clause, Literal, complement, literal_of, literals_of}
use Rattle.spec_derivations.specs.Problems.{Problem}
use Rattle.spec_derivations.specs.Base.{clauses_of, truth_facts, defining_clauses, choice_clauses}
use Rattle.spec_derivations.specs.Orders.{order_fact, order_facts, order_clauses, whole_terms, whole_clauses_of, whole_clauses}
use Rattle.spec_derivations.specs.Spent.{IsAtomOf}
use Rattle.spec_derivations.proofs.SearchTerms.{facts_spoken}
use Rattle.spec_derivations.proofs.OrderedTerms.{whole_closed, searched_whole, whole_atoms}
use Rattle.term_core.specs.declared.ids.Lit.{Lit}
use Rattle.term_core.specs.Tables.{TableView, IsIn, AreDifferent, term_at, literal_at, positive_literal}
use Rattle.clause_literals.specs.Literals.{lit_complement, IsConsistent}
use Rattle.clause_literals.specs.Statuses.{PropagatesNothing}
use Rattle.clause_literals.proofs.TableLiterals.{literals_apart}
use Rattle.clause_store.specs.Propagating.{IsPropagated}

-- a clause of what a term means is one of those that a search begins with
among_whole : (p : Problem) (u : Term) (c : Clause) → Contains (whole_terms p) u → Contains (whole_clauses_of u) c → Contains (whole_clauses p) c
among_whole p u c i j = Contains-append_right (map (λ (x : Term). x ∷ []) p.asserted) (flat_map whole_clauses_of (whole_terms p)) c
    (in_flat whole_clauses_of (whole_terms p) u c i j)

-- so is one that a term gives
in_search : (p : Problem) (u : Term) (c : Clause) → Contains (whole_terms p) u → Contains (clauses_of u) c → Contains (whole_clauses p) c
in_search p u c i j = among_whole p u c i (Contains-append_left (defining_clauses u) (order_clauses u) c (Contains-append_left (clauses_of u) (choice_clauses u) c j))

-- and one of the orders of an equality
in_orders : (p : Problem) (u : Term) (c : Clause) → Contains (whole_terms p) u → Contains (order_clauses u) c → Contains (whole_clauses p) c
in_orders p u c i j = among_whole p u c i (Contains-append_right (defining_clauses u) (order_clauses u) c j)

-- (= (not true) false), and (= (not false) true)
abbrev not_true_fact : Term
not_true_fact = pair Equal (negated (of True [])) (of False [])

abbrev not_false_fact : Term
not_false_fact = pair Equal (negated (of False [])) (of True [])

-- the literals of a term as it is, and negated
abbrev yes : Term → Literal
yes u = record { atom = u; positive = true }

abbrev no : Term → Literal
no u = record { atom = u; positive = false }

-- the clauses that give these their values
true_clause : Contains (clauses_of (of True [])) (of True [] ∷ [])
true_clause = (0, omega arith, refl)

false_clause : Contains (clauses_of (of False [])) (negated (of False []) ∷ [])
false_clause = (0, omega arith, refl)

not_true_clause : Contains (clauses_of not_true_fact) (not_true_fact ∷ negated (of True []) ∷ of False [] ∷ [])
unfolding sort_of
not_true_clause = (3, omega arith, refl)

not_false_clause : Contains (clauses_of not_false_fact) (not_false_fact ∷ negated (negated (of False [])) ∷ negated (of True []) ∷ [])
unfolding sort_of
not_false_clause = (2, omega arith, refl)

true_literals : literals_of (of True [] ∷ []) ≡ yes (of True []) ∷ []
unfolding literal_of
true_literals = refl

false_literals : literals_of (negated (of False []) ∷ []) ≡ no (of False []) ∷ []
unfolding literal_of
false_literals = refl

not_true_literals : literals_of (not_true_fact ∷ negated (of True []) ∷ of False [] ∷ []) ≡ yes not_true_fact ∷ no (of True []) ∷ yes (of False []) ∷ []
unfolding literal_of
not_true_literals = refl

not_false_literals : literals_of (not_false_fact ∷ negated (negated (of False [])) ∷ negated (of True []) ∷ []) ≡ yes not_false_fact ∷ yes (of False []) ∷ no (of True []) ∷ []
unfolding literal_of
not_false_literals = refl

-- an order fact is a clause alone, of one literal
fact_alone : (w u : Term) → Contains (order_facts w) u → Contains (order_clauses w) (u ∷ []) × (literals_of (u ∷ []) ≡ yes u ∷ [])
unfolding literal_of
fact_alone (app Equal (cons s (cons t nil))) u i = go (same_sort Number (sort_of s)) i
  where
    others : List Clause
    others = (negated (pair Equal s t) ∷ pair AtMost s t ∷ []) ∷ (negated (pair Equal s t) ∷ pair AtMost t s ∷ []) ∷ []

    go : (b : Bool) → Contains (cond b (order_fact s t ∷ []) []) u → Contains (cond b ((order_fact s t ∷ []) ∷ others) []) (u ∷ []) × (literals_of (u ∷ []) ≡ yes u ∷ [])
    go true h = subst (λ (x : Term). Contains ((order_fact s t ∷ []) ∷ others) (x ∷ []) × (literals_of (x ∷ []) ≡ yes x ∷ [])) (only (order_fact s t) u h)
        (first (order_fact s t ∷ []) others, refl)
    go false h = absurd (none u h)
fact_alone _ u i = absurd (none u i)

-- clauses that are quiet, and have those that a search begins with
module _ (t : TableView) (differ : AreDifferent t.terms) (problem : Problem) (clauses : List (List Lit)) (clauses_in : (d : List Lit) (l : Lit) → Contains clauses d → Contains d l → IsIn t l.term)
    (base : (c : Clause) → Contains (whole_clauses problem) c → (d : List Lit) × Contains clauses d × (map (literal_at t) d ≡ literals_of c))
    (front : List Lit) (consistent : IsConsistent front) (quiet : IsPropagated clauses front) where
  -- a literal that means this one holds
  abbrev Holds : Literal → Type 0
  Holds z = (l : Lit) × Contains front l × IsIn t l.term × (literal_at t l ≡ z)

  -- where all literals of a clause but one are false, that one holds
  module _ (c : Clause) (c_in : Contains (whole_clauses problem) c) (z : Literal) (z_in : Contains (literals_of c) z) (others : (y : Literal) → Contains (literals_of c) y → (y ≡ z) ⊎ Holds (complement y)) where
    abbrev d : List Lit
    d = (base c c_in).0

    abbrev there : Contains clauses d
    there = (base c c_in).1

    abbrev one : (l : Lit) × Contains d l × (literal_at t l ≡ z)
    one = from_image (literal_at t) d z (subst (λ (ls : List Literal). Contains ls z) (sym (base c c_in).2) z_in)

    each : (l : Lit) → Contains d l → (l ≡ one.0) ⊎ Contains front (lit_complement l)
    each l i = elim (others (literal_at t l) (subst (λ (ls : List Literal). Contains ls (literal_at t l)) (base c c_in).2 (to_image (literal_at t) d l i))) [
      | inl e ↦ inl (literals_apart t differ l one.0 (clauses_in d l there i) (clauses_in d one.0 there one.1) (e ∙ sym one.2))
      | inr k ↦ inr (subst (Contains front) (literals_apart t differ k.0 (lit_complement l) k.2 (clauses_in d l there i) k.3) k.1)
    ]

    go : PropagatesNothing front d → Contains front one.0
    go (inl s) = elim (each s.literal s.there) [
      | inl e ↦ subst (Contains front) e s.holds
      | inr fails ↦ absurd (consistent s.literal s.holds fails)
    ]
    go (inr u) = elim (each u.one u.has_one) [
      | inr fails ↦ absurd (u.one_open fails)
      | inl e ↦ elim (each u.other u.has_other) [ inr fails ↦ absurd (u.other_open fails) | inl f ↦ absurd (u.differ (e ∙ sym f)) ]
    ]

    forced : Holds z
    forced = (one.0, go (quiet d there), clauses_in d one.0 there one.1, one.2)

  fact_in : (u : Term) → Contains truth_facts u → Contains (whole_terms problem) u
  fact_in u i = searched_whole problem u (facts_spoken problem u i)

  true_in : Contains (whole_terms problem) (of True [])
  true_in = whole_closed problem not_false_fact (of True []) (fact_in not_false_fact (1, omega arith, refl)) (1, omega arith, refl)

  false_in : Contains (whole_terms problem) (of False [])
  false_in = whole_closed problem not_true_fact (of False []) (fact_in not_true_fact (0, omega arith, refl)) (1, omega arith, refl)

  true_holds : Holds (yes (of True []))
  true_holds = forced (of True [] ∷ []) (in_search problem (of True []) (of True [] ∷ []) true_in true_clause) (yes (of True []))
      (subst (λ (ls : List Literal). Contains ls (yes (of True []))) (sym true_literals) (first (yes (of True [])) []))
      (λ y i. inl (sym (only (yes (of True [])) y (subst (λ (ls : List Literal). Contains ls y) true_literals i))))

  false_holds : Holds (no (of False []))
  false_holds = forced (negated (of False []) ∷ []) (in_search problem (of False []) (negated (of False []) ∷ []) false_in false_clause) (no (of False []))
      (subst (λ (ls : List Literal). Contains ls (no (of False []))) (sym false_literals) (first (no (of False [])) []))
      (λ y i. inl (sym (only (no (of False [])) y (subst (λ (ls : List Literal). Contains ls y) false_literals i))))

  -- one of three literals, of which two are false
  of_three : (a b c y : Literal) → Holds (complement b) → Holds (complement c) → Contains (a ∷ b ∷ c ∷ []) y → (y ≡ a) ⊎ Holds (complement y)
  of_three a b c y nb nc i = elim (cases a (b ∷ c ∷ []) y i) [
    | inl e ↦ inl (sym e)
    | inr j ↦ elim (cases b (c ∷ []) y j) [
      | inl e ↦ inr (subst (λ (z : Literal). Holds (complement z)) e nb)
      | inr k ↦ inr (subst (λ (z : Literal). Holds (complement z)) (only c y k) nc)
    ]
  ]

  not_true_holds : Holds (yes not_true_fact)
  not_true_holds =
      let c : Clause = not_true_fact ∷ negated (of True []) ∷ of False [] ∷ [] in
      forced c (in_search problem not_true_fact c (fact_in not_true_fact (0, omega arith, refl)) not_true_clause) (yes not_true_fact)
      (subst (λ (ls : List Literal). Contains ls (yes not_true_fact)) (sym not_true_literals) (first (yes not_true_fact) (no (of True []) ∷ yes (of False []) ∷ [])))
      (λ y i. of_three (yes not_true_fact) (no (of True [])) (yes (of False [])) y true_holds false_holds (subst (λ (ls : List Literal). Contains ls y) not_true_literals i))

  not_false_holds : Holds (yes not_false_fact)
  not_false_holds =
      let c : Clause = not_false_fact ∷ negated (negated (of False [])) ∷ negated (of True []) ∷ [] in
      forced c (in_search problem not_false_fact c (fact_in not_false_fact (1, omega arith, refl)) not_false_clause) (yes not_false_fact)
      (subst (λ (ls : List Literal). Contains ls (yes not_false_fact)) (sym not_false_literals) (first (yes not_false_fact) (yes (of False []) ∷ no (of True []) ∷ [])))
      (λ y i. of_three (yes not_false_fact) (yes (of False [])) (no (of True [])) y false_holds true_holds (subst (λ (ls : List Literal). Contains ls y) not_false_literals i))

  -- both facts hold
  pub facts_hold : (u : Term) → Contains truth_facts u → Holds (yes u)
  facts_hold u i = elim (cases not_true_fact (not_false_fact ∷ []) u i) [
    | inl e ↦ subst (λ (x : Term). Holds (yes x)) e not_true_holds
    | inr j ↦ subst (λ (x : Term). Holds (yes x)) (only not_false_fact u j) not_false_holds
  ]

  -- so do order facts
  pub orders_hold : (u : Term) → Contains (flat_map order_facts (whole_terms problem)) u → Holds (yes u)
  orders_hold u i =
      let w = from_flat order_facts (whole_terms problem) u i in
      let a = fact_alone w.0 u w.2 in
      forced (u ∷ []) (in_orders problem w.0 (u ∷ []) w.1 a.0) (yes u)
      (subst (λ (ls : List Literal). Contains ls (yes u)) (sym a.1) (first (yes u) []))
      (λ y j. inl (sym (only (yes u) y (subst (λ (ls : List Literal). Contains ls y) a.1 j))))

  -- a term is an atom that has no value yet
  module _ (m : Lit) (m_in : IsIn t m.term) (positive : m.positive ≡ true) (not_held : Contains front m → ⊥) (not_false : Contains front (lit_complement m) → ⊥) where
    own : literal_at t m ≡ yes (term_at t m.term)
    own i = record { atom = term_at t m.term; positive = positive i }

    -- it does not hold
    does_not : (u : Term) → Holds (yes u) → term_at t m.term ≢ u
    does_not u h e = not_held (subst (Contains front) (literals_apart t differ h.0 m h.2 m_in (h.3 ∙ ap yes (sym e) ∙ sym own)) h.1)

    is_no_false : term_at t m.term ≢ of False []
    is_no_false e = not_false (subst (Contains front) (literals_apart t differ false_holds.0 (lit_complement m) false_holds.2 m_in (false_holds.3 ∙ ap no (sym e) ∙ ap complement (sym own))) false_holds.1)

    pub is_atom : Contains (whole_terms problem) (term_at t m.term) → sort_of (term_at t m.term) ≡ Truth → literal_of (term_at t m.term) ≡ positive_literal (term_at t m.term) → IsAtomOf problem (term_at t m.term)
    is_atom spoken sort bare = whole_atoms problem (term_at t m.term) spoken sort bare (does_not (of True []) true_holds) is_no_false
        (λ i. does_not (term_at t m.term) (facts_hold (term_at t m.term) i) refl) (λ i. does_not (term_at t m.term) (orders_hold (term_at t m.term) i) refl)
