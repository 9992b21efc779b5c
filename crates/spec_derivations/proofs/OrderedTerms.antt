-- Which terms a search over linear arithmetic speaks of, and that its clauses are over them.
use Rattle.std.proofs.Common.{◌≡◌, ◌≢◌, Bool, true, false, cond, List, [], ◌∷◌, map, All, Contains, inl, inr, refl, sym, ap, ◌∙◌, subst, arith}
use Rattle.std.specs.Prelude.{flat_map}
use Rattle.std.proofs.lemmas.List.Elements.{All-contains, All-contains_itself, All-from_recursion, All-weaker, Contains-append_left, Contains-append_right, Contains-append_cases}
use Rattle.spec_text.proofs.Members.{first, none, only, each_of, from_image, in_flat, from_flat}
use Rattle.spec_sorts.specs.Terms.{Truth, Number, Symbol, True, False, Not, Or, Equal, AtMost, Term, app, nil, cons, of, pair, negated, same_sort, sort_of, head_takes}
use Rattle.spec_sorts.specs.WellSorted.{IsWellSorted, IsFormulaOver}
use Rattle.spec_sorts.specs.Subsets.{arguments_of, AreAmong}
use Rattle.spec_sorts.specs.Literals.{Clause, Literal, literal_of, literals_of}
use Rattle.spec_sorts.proofs.WellSorted.{same_sort_is, before}
use Rattle.spec_sorts.proofs.LeastSubterms.{least_of}
use Rattle.spec_derivations.specs.Problems.{Problem, known_terms}
use Rattle.spec_derivations.specs.Base.{truth_facts, branch_equalities, spoken_terms, search_terms, defining_clauses, search_clauses}
use Rattle.spec_derivations.specs.Orders.{order_fact, order_facts, order_clauses, ordered_terms, whole_terms, whole_clauses_of, whole_clauses}
use Rattle.spec_derivations.specs.Spent.{IsAtomOf, forth, back}
use Rattle.spec_derivations.proofs.Below.{subterms_have, argument_sorted, head_fits}
use Rattle.spec_derivations.proofs.Obeying.{number_differs}
use Rattle.spec_derivations.proofs.Defining.{defining_over}
use Rattle.spec_derivations.proofs.SearchTerms.{no_negation, equalities_spoken, spoken_atoms, spoken_sorted, search_over}

-- An equality of numbers.
pub record IsOfNumbers (w : Term) : Type 0 where
  pub s : Term
  pub t : Term
  pub equality : w ≡ pair Equal s t
  pub number : sort_of s ≡ Number

-- such an equality alone has an order fact
pub order_of : (w u : Term) → Contains (order_facts w) u → (o : IsOfNumbers w) × (u ≡ order_fact o.s o.t)
order_of (app Equal (cons s (cons t nil))) u i = go (same_sort Number (sort_of s)) refl i
  where
    go : (b : Bool) → same_sort Number (sort_of s) ≡ b → Contains (cond b (order_fact s t ∷ []) []) u → (o : IsOfNumbers (pair Equal s t)) × (u ≡ order_fact o.s o.t)
    go true e h = (record { s = s; t = t; equality = refl; number = sym (same_sort_is Number (sort_of s) e) }, sym (only (order_fact s t) u h))
    go false e h = absurd (none u h)
order_of _ u i = absurd (none u i)

fact_of : (s t : Term) → sort_of s ≡ Number → Contains (order_facts (pair Equal s t)) (order_fact s t)
fact_of s t e = subst (λ b. Contains (cond b (order_fact s t ∷ []) []) (order_fact s t)) (sym (ap (same_sort Number) e)) (first (order_fact s t) [])

-- the terms that the orders of an equality add
abbrev order_parts : Term → Term → List Term
order_parts s t = order_fact s t ∷ negated (pair AtMost s t) ∷ negated (pair AtMost t s) ∷ pair AtMost s t ∷ pair AtMost t s ∷ []

-- what an order and its negation have
abbrev BothHave : (Term → Type 0) → Term → Term → Type 0
BothHave P x y = P (negated (pair AtMost x y)) × P (pair AtMost x y)

-- what each of these terms has
parts_have : (P : Term → Type 0) (s t : Term) → P (order_fact s t) → BothHave P s t → BothHave P t s → (u : Term) → Contains (order_parts s t) u → P u
parts_have P s t fact one other u i =
    All-contains P (order_parts s t) u (All-from_recursion P (order_parts s t) (fact, (one.0, (other.0, (one.1, (other.1, tt)))))) i

-- the first argument of a term is of sort Bool, where it has some
abbrev HasTruths : Term → Type 0
HasTruths (app h (cons s ts)) = sort_of s ≡ Truth
HasTruths (app h nil) = Unit {0}

-- Why a search over linear arithmetic speaks of a term.
data IsWhole (p : Problem) : Term → Type 0 where
  -- any search speaks of it
  searched : (u : Term) → Contains (search_terms p) u → IsWhole p u
  -- or it is of the orders of an equality of numbers of which any search speaks
  ordered : (s t u : Term) → Contains (search_terms p) (pair Equal s t) → sort_of s ≡ Number → Contains (order_parts s t) u → IsWhole p u

module _ (p : Problem) where
  module _ (s t : Term) (i : Contains (search_terms p) (pair Equal s t)) (number : sort_of s ≡ Number) where
    part : (u : Term) → Contains (order_parts s t) u → IsWhole p u
    part u k = ordered s t u i number k

    side : (u : Term) → Contains (s ∷ t ∷ []) u → IsWhole p u
    side u k = searched u ((least_of (spoken_terms p)).closed (pair Equal s t) i u k)

    abbrev HasWhole : Term → Type 0
    HasWhole y = (v : Term) → Contains (arguments_of y) v → IsWhole p v

    -- an order of both sides, and its negation
    order_below : (x y : Term) → Contains (s ∷ t ∷ []) x → Contains (s ∷ t ∷ []) y → Contains (order_parts s t) (pair AtMost x y) → BothHave HasWhole x y
    order_below x y a b k = (
      λ v j. subst (IsWhole p) (only (pair AtMost x y) v j) (part (pair AtMost x y) k),
      each_of (IsWhole p) x (y ∷ []) (side x a) (λ v j. subst (IsWhole p) (only y v j) (side y b)),
    )

    part_below : (x : Term) → Contains (order_parts s t) x → HasWhole x
    part_below = parts_have HasWhole s t
        (each_of (IsWhole p) (pair Equal s t) (negated (pair AtMost s t) ∷ negated (pair AtMost t s) ∷ []) (searched (pair Equal s t) i)
        (each_of (IsWhole p) (negated (pair AtMost s t)) (negated (pair AtMost t s) ∷ []) (part (negated (pair AtMost s t)) (1, omega arith, refl))
        (λ v j. subst (IsWhole p) (only (negated (pair AtMost t s)) v j) (part (negated (pair AtMost t s)) (2, omega arith, refl)))))
        (order_below s t (0, omega arith, refl) (1, omega arith, refl) (3, omega arith, refl))
        (order_below t s (1, omega arith, refl) (0, omega arith, refl) (4, omega arith, refl))

  -- the arguments of these terms are such terms
  whole_below : (x : Term) → IsWhole p x → (u : Term) → Contains (arguments_of x) u → IsWhole p u
  whole_below x (searched _ i) u j = searched u ((least_of (spoken_terms p)).closed x i u j)
  whole_below x (ordered s t _ i number k) u j = part_below s t i number x k u j

  whole_each : (t : Term) → Contains (ordered_terms p) t → IsWhole p t
  whole_each t i = elim (Contains-append_cases (spoken_terms p) (flat_map order_facts (search_terms p)) t i) [
    | inl here ↦ searched t ((least_of (spoken_terms p)).there t here)
    | inr more ↦
        let w = from_flat order_facts (search_terms p) t more in
        let o = order_of w.0 t w.2 in
        ordered o.0.s o.0.t t (subst (Contains (search_terms p)) o.0.equality w.1) o.0.number (subst (Contains (order_parts o.0.s o.0.t)) (sym o.1) (0, omega arith, refl))
  ]

  -- each term of which such a search speaks comes from one of these
  whole : (t : Term) → Contains (whole_terms p) t → IsWhole p t
  whole = subterms_have (IsWhole p) whole_below (ordered_terms p) (All-weaker (Contains (ordered_terms p)) (IsWhole p) whole_each (ordered_terms p) (All-contains_itself (ordered_terms p)))

  pub whole_closed : (t u : Term) → Contains (whole_terms p) t → Contains (arguments_of t) u → Contains (whole_terms p) u
  whole_closed t u i j = (least_of (ordered_terms p)).closed t i u j

  -- it speaks of what any search speaks of
  pub searched_whole : AreAmong (search_terms p) (whole_terms p)
  searched_whole = (least_of (spoken_terms p)).least (whole_terms p)
      (λ t i. (least_of (ordered_terms p)).there t (Contains-append_left (spoken_terms p) (flat_map order_facts (search_terms p)) t i)) (least_of (ordered_terms p)).closed

  -- and of the orders of the equalities of numbers among that
  fact_whole : (w u : Term) → Contains (search_terms p) w → Contains (order_facts w) u → Contains (whole_terms p) u
  fact_whole w u i j = (least_of (ordered_terms p)).there u (Contains-append_right (spoken_terms p) (flat_map order_facts (search_terms p)) u (in_flat order_facts (search_terms p) w u i j))

  -- the orders add no choice
  pub equalities_whole : (w u : Term) → Contains (whole_terms p) w → Contains (branch_equalities w) u → Contains (whole_terms p) u
  equalities_whole w u i j = go w (whole w i) j
    where
      go : (v : Term) → IsWhole p v → Contains (branch_equalities v) u → Contains (whole_terms p) u
      go v (searched _ k) l = searched_whole u (equalities_spoken p v u k l)
      go v (ordered s t _ k number m) l = absurd (parts_have (λ x. Contains (branch_equalities x) u → ⊥) s t (none u) (none u, none u) (none u, none u) v m l)

  -- and no equality of numbers
  pub orders_whole : (w u : Term) → Contains (whole_terms p) w → Contains (order_facts w) u → Contains (whole_terms p) u
  orders_whole w u i j = go w (whole w i) j
    where
      go : (v : Term) → IsWhole p v → Contains (order_facts v) u → Contains (whole_terms p) u
      go v (searched _ k) l = fact_whole v u k l
      go v (ordered s t _ k number m) l = absurd (parts_have (λ x. Contains (order_facts x) u → ⊥) s t (none u) (none u, none u) (none u, none u) v m l)

  -- the orders of an equality of numbers that is one of these terms
  module _ (s t : Term) (i : Contains (whole_terms p) (pair Equal s t)) (number : sort_of s ≡ Number) where
    pub order_whole : Contains (whole_terms p) (order_fact s t)
    order_whole = orders_whole (pair Equal s t) (order_fact s t) i (fact_of s t number)

    pub forth_whole : Contains (whole_terms p) (pair AtMost s t)
    forth_whole = whole_closed (negated (pair AtMost s t)) (pair AtMost s t) (whole_closed (order_fact s t) (negated (pair AtMost s t)) order_whole (1, omega arith, refl)) (0, omega arith, refl)

    pub back_whole : Contains (whole_terms p) (pair AtMost t s)
    back_whole = whole_closed (negated (pair AtMost t s)) (pair AtMost t s) (whole_closed (order_fact s t) (negated (pair AtMost t s)) order_whole (2, omega arith, refl)) (0, omega arith, refl)

  -- an equality of numbers of which a search speaks is an atom of the check
  no_fact : (s t : Term) → sort_of s ≡ Number → Contains truth_facts (pair Equal s t) → ⊥
  unfolding sort_of
  no_fact s t number i = number_differs (sym number ∙ All-contains HasTruths truth_facts (pair Equal s t) (All-from_recursion HasTruths truth_facts (refl, (refl, tt))) i)

  equality_atom : (s t : Term) → Contains (search_terms p) (pair Equal s t) → sort_of s ≡ Number → IsAtomOf p (pair Equal s t)
  unfolding sort_of literal_of
  equality_atom s t i number = spoken_atoms p (pair Equal s t) i refl refl (λ e. cc) (λ e. cc) (no_fact s t number)

  -- the terms that stand for themselves, but for the truth values, the two facts about them and the order facts, are atoms of the check
  pub whole_atoms : (u : Term) → Contains (whole_terms p) u → sort_of u ≡ Truth → (literal_of u ≡ record { atom = u; positive = true })
      → u ≢ of True [] → u ≢ of False [] → (Contains truth_facts u → ⊥) → (Contains (flat_map order_facts (whole_terms p)) u → ⊥) → IsAtomOf p u
  unfolding literal_of
  whole_atoms u i sorted itself not_true not_false not_fact not_order = go (whole u i) itself not_order
    where
      Among : Term → Type 0
      Among x = (literal_of x ≡ record { atom = x; positive = true }) → (Contains (flat_map order_facts (whole_terms p)) x → ⊥) → IsAtomOf p x

      go : IsWhole p u → Among u
      go (searched _ k) = λ l n. spoken_atoms p u k sorted l not_true not_false not_fact
      go (ordered s t _ k number m) = parts_have Among s t
          (λ l n. absurd (n (in_flat order_facts (whole_terms p) (pair Equal s t) (order_fact s t) (searched_whole (pair Equal s t) k) (fact_of s t number))))
          (λ l n. absurd (no_negation (negated (pair AtMost s t)) (pair AtMost s t) refl l), λ l n. forth s t (equality_atom s t k number) number)
          (λ l n. absurd (no_negation (negated (pair AtMost t s)) (pair AtMost t s) refl l), λ l n. back s t (equality_atom s t k number) number) u m

  -- so are the literals of the clauses of an equality of numbers
  order_over : (w : Term) (c : Clause) (u : Term) → Contains (whole_terms p) w → Contains (order_clauses w) c → Contains c u → Contains (whole_terms p) (literal_of u).atom
  unfolding literal_of
  order_over (app Equal (cons s (cons t nil))) c u w_in i j = go (same_sort Number (sort_of s)) refl i
    where
      equality : Term
      equality = pair Equal s t

      IsOver : Term → Type 0
      IsOver x = Contains (whole_terms p) (literal_of x).atom

      either : (x : Term) → Contains (whole_terms p) x → literal_of x ≡ record { atom = x; positive = true } → Contains (negated equality ∷ x ∷ []) u → IsOver u
      either x x_in e k = each_of IsOver (negated equality) (x ∷ []) w_in (λ y h. subst IsOver (only x y h) (subst (λ (l : Literal). Contains (whole_terms p) l.atom) (sym e) x_in)) u k

      go : (b : Bool) → same_sort Number (sort_of s) ≡ b
          → Contains (cond b ((order_fact s t ∷ []) ∷ (negated equality ∷ pair AtMost s t ∷ []) ∷ (negated equality ∷ pair AtMost t s ∷ []) ∷ []) []) c → IsOver u
      go false e h = absurd (none c h)
      go true e h =
          let number : sort_of s ≡ Number = sym (same_sort_is Number (sort_of s) e) in
          each_of (λ d. Contains d u → IsOver u) (order_fact s t ∷ []) ((negated equality ∷ pair AtMost s t ∷ []) ∷ (negated equality ∷ pair AtMost t s ∷ []) ∷ [])
          (λ k. subst IsOver (only (order_fact s t) u k) (order_whole s t w_in number))
          (each_of (λ d. Contains d u → IsOver u) (negated equality ∷ pair AtMost s t ∷ []) ((negated equality ∷ pair AtMost t s ∷ []) ∷ [])
          (either (pair AtMost s t) (forth_whole s t w_in number) refl)
          (λ d k l. either (pair AtMost t s) (back_whole s t w_in number) refl (subst (λ x. Contains x u) (sym (only (negated equality ∷ pair AtMost t s ∷ []) d k)) l))) c h j
  order_over _ c u w_in i j = absurd (none c i)

  -- the literals of the clauses with which such a search begins are over the terms of which it speaks
  pub whole_over : (c : Clause) (l : Literal) → Contains (whole_clauses p) c → Contains (literals_of c) l → Contains (whole_terms p) l.atom
  whole_over c l i j = elim (Contains-append_cases (map (λ t. t ∷ []) p.asserted) (flat_map whole_clauses_of (whole_terms p)) c i) [
    | inl root ↦ searched_whole l.atom (search_over p c l (Contains-append_left (map (λ t. t ∷ []) p.asserted) (flat_map defining_clauses (search_terms p)) c root) j)
    | inr sub ↦
        let t = from_flat whole_clauses_of (whole_terms p) c sub in
        elim (Contains-append_cases (defining_clauses t.0) (order_clauses t.0) c t.2) [
          | inl k ↦ defining_over (whole_terms p) (least_of (ordered_terms p)).closed equalities_whole t.0 t.1 c l k j
          | inr k ↦ let u = from_image literal_of c l j in subst (λ (x : Literal). Contains (whole_terms p) x.atom) u.2 (order_over t.0 c u.0 t.1 k u.1)
        ]
  ]

  -- the clauses of any search are among them
  pub searched_clauses : (c : Clause) → Contains (search_clauses p) c → Contains (whole_clauses p) c
  searched_clauses c i = elim (Contains-append_cases (map (λ t. t ∷ []) p.asserted) (flat_map defining_clauses (search_terms p)) c i) [
    | inl root ↦ Contains-append_left (map (λ t. t ∷ []) p.asserted) (flat_map whole_clauses_of (whole_terms p)) c root
    | inr sub ↦
        let t = from_flat defining_clauses (search_terms p) c sub in
        Contains-append_right (map (λ t. t ∷ []) p.asserted) (flat_map whole_clauses_of (whole_terms p)) c
        (in_flat whole_clauses_of (whole_terms p) t.0 c (searched_whole t.0 t.1) (Contains-append_left (defining_clauses t.0) (order_clauses t.0) c t.2))
  ]

module _ (symbols : List Symbol) where
  -- the orders of two numbers are well sorted
  order_sorted : (x y : Term) → IsWellSorted symbols [] x → IsWellSorted symbols [] y → sort_of x ≡ Number → sort_of y ≡ Number → BothHave (IsWellSorted symbols []) x y
  unfolding sort_of
  order_sorted x y w z e f =
      let order : IsWellSorted symbols [] (pair AtMost x y) = before symbols [] AtMost (x ∷ y ∷ []) (λ i. head_takes [] AtMost (e i ∷ f i ∷ [])) tt (w, (z, tt)) in
      (before symbols [] Not (pair AtMost x y ∷ []) refl tt (order, tt), order)

  parts_sorted : (s t : Term) → IsWellSorted symbols [] (pair Equal s t) → sort_of s ≡ Number → (u : Term) → Contains (order_parts s t) u → IsWellSorted symbols [] u
  unfolding sort_of
  parts_sorted s t w number =
      let sides = argument_sorted symbols [] (pair Equal s t) w in
      let s_sorted = sides s (0, omega arith, refl) in
      let t_sorted = sides t (1, omega arith, refl) in
      let other : sort_of t ≡ Number = sym (same_sort_is (sort_of s) (sort_of t) (head_fits symbols [] Equal (cons s (cons t nil)) w)) ∙ number in
      let one = order_sorted s t s_sorted t_sorted number other in
      let two = order_sorted t s t_sorted s_sorted other number in
      parts_have (IsWellSorted symbols []) s t
      (before symbols [] Or (pair Equal s t ∷ negated (pair AtMost s t) ∷ negated (pair AtMost t s) ∷ []) refl tt (w, (one.0, (two.0, tt)))) one two

  -- of terms over symbols such a search speaks of well-sorted terms
  pub whole_sorted : (p : Problem) → All (IsFormulaOver symbols) (known_terms p) → (t : Term) → Contains (whole_terms p) t → IsWellSorted symbols [] t
  whole_sorted p formulas t i = go t (whole p t i)
    where
      go : (u : Term) → IsWhole p u → IsWellSorted symbols [] u
      go u (searched _ k) = spoken_sorted symbols p formulas u k
      go u (ordered s t _ k number m) = parts_sorted s t (spoken_sorted symbols p formulas (pair Equal s t) k) number u m
