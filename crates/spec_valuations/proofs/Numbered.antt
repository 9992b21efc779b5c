-- A saturated search over equality, functions and linear arithmetic has numbers that go with its truths.
use Rattle.std.proofs.Common.{◌≡◌, ◌↔◌, Bool, true, false, not, ◌||◌, ◌&&◌, cond, ◌<ℤ◌, List, [], ◌∷◌, length, map, Contains, pos, refl, sym, ap, ◌∙◌, subst, arith}
use Rattle.std.specs.Prelude.{flat_map}
use Rattle.std.specs.List.{list_any}
use Rattle.std.proofs.lemmas.Bool.{false≢true, true≢false, and_parts, not-true}
use Rattle.std.proofs.lemmas.Int.{ints}
use Rattle.std.proofs.lemmas.List.Elements.{All-contains, Contains-append_left, Contains-append_right}
use Rattle.spec_text.proofs.Members.{first, later, to_image, in_flat}
use Rattle.spec_numbers.specs.Fractions.{Fraction, zero_fraction, IsReduced}
use Rattle.spec_numbers.proofs.Field.{plus-opposite}
use Rattle.spec_sorts.specs.Terms.{Sort, Truth, Number, Symbol, same_sort, Less, AtMost, Minus, Plus, Times, Divide, Literal, Equal, Or, Head, Term, Terms, app, nil, cons, list_of, sort_of, sorts_of, all_same, head_takes, negated, pair}
use Rattle.spec_sorts.specs.Values.{Value, truth, number, is_true, number_in, Interpretation}
use Rattle.spec_sorts.specs.TermValues.{less, at_most, head_value}
use Rattle.spec_sorts.specs.Theory.{keeps_constant}
use Rattle.spec_sorts.specs.Literals.{Literal as HeldLiteral, literal_of}
use Rattle.spec_sorts.proofs.LeastSubterms.{least_of}
use Rattle.spec_sorts.proofs.WellSorted.{same_sort_is, less_takes, at_most_takes}
use Rattle.spec_equality.specs.Congruence.{signed_literal}
use Rattle.spec_arithmetic.specs.Numbers.{number_at}
use Rattle.spec_arithmetic.specs.Contradictions.{are_numbers}
use Rattle.spec_arithmetic.proofs.Differences.{IsBelowZero, less_true}
use Rattle.spec_arithmetic.proofs.Reals.{plus_takes, times_takes, minus_takes, divide_takes}
use Rattle.spec_arithmetic.proofs.FormNumbers.{as_values, number_reduced, number_obeys}
use Rattle.spec_simplex.specs.Constraints.{Relation, saying, below as is_under, at_most as is_up_to, equals, at_least, above, constraint_by, where_true}
use Rattle.spec_simplex.specs.Numbers.{Compares, HoldsAt}
use Rattle.spec_rules.specs.Truths.{term_true_by}
use Rattle.spec_derivations.specs.Problems.{Problem, terms_of_problem}
use Rattle.spec_derivations.specs.Base.{defining_clauses}
use Rattle.spec_derivations.specs.Orders.{order_fact, order_clauses, ordered_terms, whole_terms, whole_clauses_of}
use Rattle.spec_derivations.proofs.Meeting.{negated_true}
use Rattle.spec_derivations.proofs.Obeying.{obeyed}
use Rattle.spec_derivations.proofs.SearchTerms.{subterms_spoken, facts_spoken}
use Rattle.spec_derivations.proofs.OrderedTerms.{searched_whole, equalities_whole, order_whole, forth_whole, back_whole, whole_sorted}
use Rattle.spec_valuations.specs.Tables.{Obeys, values_by}
use Rattle.spec_valuations.specs.Classes.{value_in, value_by}
use Rattle.spec_valuations.specs.Saturation.{TheoryValues, IsSaturatedWithNumbers, IsSaturatedOnNumbers}
use Rattle.spec_valuations.proofs.Saturating.{some_interpretation, IsAtSaturation, is_of_numbers, HasNumbers, listed, is_met, alone, atoms, equality_classes}
use Rattle.spec_valuations.proofs.Formulas.{core_joins}

-- no number is less than itself
not_less : (x : Fraction) → IsReduced x → less x x ≡ true → ⊥
not_less x r e = none (subst IsBelowZero (plus-opposite x r) (less_true x x e)).num
  where
    none : zero_fraction.num <ℤ pos 0 → ⊥
    none h = absurd (omega (arith, ints))

-- Two terms of sort Real.
record AreTwo (ts : Terms) : Type 0 where
  s : Term
  t : Term
  same : ts ≡ cons s (cons t nil)
  left : sort_of s ≡ Number
  right : sort_of t ≡ Number

two_of : (ts : Terms) → sorts_of ts ≡ Number ∷ Number ∷ [] → AreTwo ts
two_of nil e = absurd (omega (arith, ap length e))
two_of (cons s nil) e = absurd (omega (arith, ap length e))
two_of (cons s (cons t nil)) e = record { s = s; t = t; same = refl; left = ap (first_sort Number) e; right = ap (second_sort Number) e }
  where
    first_sort : Sort → List Sort → Sort
    first_sort d [] = d
    first_sort d (x ∷ xs) = x

    second_sort : Sort → List Sort → Sort
    second_sort d (x ∷ y ∷ xs) = y
    second_sort d xs = d
two_of (cons s (cons t (cons u us))) e = absurd (omega (arith, ap length e))

-- one of three terms holds, of which two are negations
one_of_three : (a b c : Bool) → a || (not b || (not c || false)) ≡ true → a ≡ false → b ≡ true → c ≡ true → ⊥
one_of_three a b c f e g h = grind (arith, f, e, g, h)

module _ (symbols : List Symbol) (p : Problem) (terms : List Term) (held : List HeldLiteral) (a : TheoryValues) (r : IsSaturatedWithNumbers symbols p terms held a) where
  abbrev point : Term → Fraction
  point t = number_at a.number t

  abbrev is_so : Term → Bool
  is_so t = term_true_by a.truths t

  clause_of_term : (t : Term) → Contains terms t → (c : List Term) → Contains (whole_clauses_of t) c → list_any is_so c ≡ true
  clause_of_term t t_in c c_in = r.met c (Contains-append_right (map (λ x. x ∷ []) p.asserted) (flat_map whole_clauses_of (whole_terms p)) c
      (in_flat whole_clauses_of (whole_terms p) t c (r.only t t_in) c_in))

  pub at_saturation : IsAtSaturation symbols p terms held a.truths a.class
  at_saturation = record {
    formulas = r.formulas;
    asked = λ t c. r.listed t (searched_whole p t (subterms_spoken p t ((least_of (terms_of_problem p)).there t c)));
    sorted = λ t c. whole_sorted symbols p r.formulas t (r.only t c);
    closed = λ t c u d. r.listed u ((least_of (ordered_terms p)).closed t (r.only t c) u d);
    facts = λ t c. r.listed t (searched_whole p t (facts_spoken p t c));
    equalities = λ w u c d. r.listed u (equalities_whole p w u (r.only w c) d);
    asserted = λ t c. r.met (t ∷ []) (Contains-append_left (map (λ x. x ∷ []) p.asserted) (flat_map whole_clauses_of (whole_terms p)) (t ∷ []) (to_image (λ x. x ∷ []) p.asserted t c));
    defining = λ t c d e. clause_of_term t c d (Contains-append_left (defining_clauses t) (order_clauses t) d e);
    truths = r.truths;
    fine = r.fine;
    tells = r.classes;
  }

  takes : (h : Head) (ts : Terms) → Contains terms (app h ts) → head_takes [] h (sorts_of ts) ≡ true
  takes = (listed symbols p terms held a.truths a.class at_saturation).takes

  point_reduced : (t : Term) → Contains terms t → sort_of t ≡ Number → IsReduced (point t)
  point_reduced t c e = number_reduced symbols a.number r.reduced t (record { term = at_saturation.sorted t c; sort = e })

  -- what an atom of numbers says with its truth is so of the numbers of its sides
  module _ (h : Head) (s t : Term) (there : Contains terms (pair h s t)) (left : sort_of s ≡ Number) (right : sort_of t ≡ Number) where
    pub left_there : Contains terms s
    left_there = at_saturation.closed (pair h s t) there s (first s (t ∷ []))

    pub right_there : Contains terms t
    right_there = at_saturation.closed (pair h s t) there t (later s (t ∷ []) t (first t []))

    told : (b : Bool) (relation : Relation) → is_so (pair h s t) ≡ b → sort_of (pair h s t) ≡ Truth → literal_of (pair h s t) ≡ signed_literal (pair h s t) true
        → constraint_by b (pair h s t) ≡ where_true (are_numbers s t) (saying relation (pair h s t) s t) → Compares relation (point s) (point t)
    told b relation so sort plain says =
        let c = saying relation (pair h s t) s t in
        let numbers : are_numbers s t ≡ true = λ j. same_sort (left j) Number && same_sort (right j) Number in
        let is_held : Contains held (signed_literal (pair h s t) b) =
        subst (λ (x : Bool). Contains held (signed_literal (pair h s t) x)) so (atoms symbols p terms held a.truths a.class at_saturation (pair h s t) there sort plain) in
        All-contains (HoldsAt a.number) held (signed_literal (pair h s t) b) r.kept is_held c (says ∙ ap (λ x. where_true x c) numbers) (r.linear s left_there) (r.linear t right_there)

  -- an order that is held negatively: the other side is less
  not_up_to : (s t : Term) → Contains terms (pair AtMost s t) → sort_of s ≡ Number → sort_of t ≡ Number → is_so (pair AtMost s t) ≡ false → less (point t) (point s) ≡ true
  unfolding sort_of literal_of constraint_by
  not_up_to s t c left right e = told AtMost s t c left right false above e refl refl refl

  -- an equality of numbers that is not true
  module _ (s t : Term) (there : Contains terms (pair Equal s t)) (left : sort_of s ≡ Number) (right : sort_of t ≡ Number) where
    fact_there : Contains terms (order_fact s t)
    fact_there = r.listed (order_fact s t) (order_whole p s t (r.only (pair Equal s t) there) left)

    forth_there : Contains terms (pair AtMost s t)
    forth_there = r.listed (pair AtMost s t) (forth_whole p s t (r.only (pair Equal s t) there) left)

    back_there : Contains terms (pair AtMost t s)
    back_there = r.listed (pair AtMost t s) (back_whole p s t (r.only (pair Equal s t) there) left)

    fact_clause : Contains (order_clauses (pair Equal s t)) (order_fact s t ∷ [])
    fact_clause = subst (λ b. Contains (cond b ((order_fact s t ∷ []) ∷ (negated (pair Equal s t) ∷ pair AtMost s t ∷ []) ∷ (negated (pair Equal s t) ∷ pair AtMost t s ∷ []) ∷ []) []) (order_fact s t ∷ []))
        (sym (ap (same_sort Number) left)) (0, omega arith, refl)

    fact_so : is_so (order_fact s t) ≡ true
    fact_so = alone a.truths (order_fact s t)
        (clause_of_term (pair Equal s t) there (order_fact s t ∷ []) (Contains-append_right (defining_clauses (pair Equal s t)) (order_clauses (pair Equal s t)) (order_fact s t ∷ []) fact_clause))

    fact_takes : head_takes [] Or (sorts_of (cons (pair Equal s t) (cons (negated (pair AtMost s t)) (cons (negated (pair AtMost t s)) nil)))) ≡ true
    unfolding sort_of
    fact_takes = refl

    one_so : is_so (pair Equal s t) || (not (is_so (pair AtMost s t)) || (not (is_so (pair AtMost t s)) || false)) ≡ true
    one_so =
        (λ i. is_so (pair Equal s t) || (sym (negated_true a.truths (pair AtMost s t)) i || (sym (negated_true a.truths (pair AtMost t s)) i || false)))
        ∙ sym (ap is_true (obeyed a.truths (order_fact s t) (core_joins Or (cons (pair Equal s t) (cons (negated (pair AtMost s t)) (cons (negated (pair AtMost t s)) nil))) refl fact_takes fact_takes)
        (is_met symbols p terms held a.truths a.class at_saturation (order_fact s t) fact_there) some_interpretation))
        ∙ fact_so

    -- then one of its sides is less than the other
    apart : is_so (pair Equal s t) ≡ false → point s ≡ point t → ⊥
    apart e same = go (is_so (pair AtMost s t)) refl (is_so (pair AtMost t s)) refl
      where
        s_reduced : IsReduced (point s)
        s_reduced = point_reduced s (left_there Equal s t there left right) left

        go : (b : Bool) → is_so (pair AtMost s t) ≡ b → (c : Bool) → is_so (pair AtMost t s) ≡ c → ⊥
        go true f true g = one_of_three (is_so (pair Equal s t)) (is_so (pair AtMost s t)) (is_so (pair AtMost t s)) one_so e f g
        go false f c g = not_less (point s) s_reduced (ap (λ x. less x (point s)) same ∙ not_up_to s t forth_there left right f)
        go b f false g = not_less (point s) s_reduced (ap (less (point s)) same ∙ not_up_to t s back_there right left g)

  equal_sides : (s t : Term) → Contains terms (pair Equal s t) → sort_of s ≡ Number → (sort_of t ≡ Number) × ((is_so (pair Equal s t) ≡ true) ↔ (point s ≡ point t))
  unfolding sort_of literal_of constraint_by
  equal_sides s t c left = (right, (λ e. told Equal s t c left right true equals e refl refl refl, back))
    where
      right : sort_of t ≡ Number
      right = sym (same_sort_is (sort_of s) (sort_of t) (takes Equal (cons s (cons t nil)) c)) ∙ left

      back : point s ≡ point t → is_so (pair Equal s t) ≡ true
      back e = go (is_so (pair Equal s t)) refl
        where
          go : (b : Bool) → is_so (pair Equal s t) ≡ b → b ≡ true
          go true f = refl
          go false f = absurd (apart s t c left right f e)

  -- theories agree on the sides of an equality of which the search speaks: its truth says what the classes are, and what the numbers are
  pub sides_agree : (s t : Term) → Contains terms (pair Equal s t) → sort_of s ≡ Number → (a.class s ≡ a.class t) ↔ (point s ≡ point t)
  sides_agree s t c left =
      let classes = equality_classes symbols p terms held a.truths a.class at_saturation s t c (λ q. true≢false (ap (λ (x : Sort). same_sort x Truth) (sym q ∙ left))) in
      let numbers = (equal_sides s t c left).1 in
      (λ e. numbers.0 (classes.1 e), λ e. classes.0 (numbers.1 e))

  abbrev v : Term → Value
  v = value_by is_so point a.class

  -- arguments of sort Real have their numbers as values
  number_value : (t : Term) → sort_of t ≡ Number → v t ≡ number (point t)
  number_value t e = ap (λ s. value_in s (is_so t) (point t) (a.class t)) e

  arguments_valued : (ts : Terms) → all_same Number (sorts_of ts) ≡ true → values_by v ts ≡ map (as_values a.number) (list_of ts)
  arguments_valued nil e = refl
  arguments_valued (cons t ts) e =
      let parts = and_parts (same_sort Number (sort_of t)) (all_same Number (sorts_of ts)) e in
      λ i. number_value t (sym (same_sort_is Number (sort_of t) parts.0)) i ∷ arguments_valued ts parts.1 i

  arithmetic : (i : Interpretation) (h : Head) (ts : Terms) → Contains terms (app h ts) → keeps_constant h ≡ true → all_same Number (sorts_of ts) ≡ true
      → number (point (app h ts)) ≡ head_value i h (values_by v ts)
  arithmetic i h ts c k e = number_obeys symbols a.number i h ts k (at_saturation.sorted (app h ts) c) ∙ ap (head_value i h) (sym (arguments_valued ts e))

  -- an order is true exactly where it holds of the numbers of its sides
  less_so : (s t : Term) → Contains terms (pair Less s t) → sort_of s ≡ Number → sort_of t ≡ Number → is_so (pair Less s t) ≡ less (point s) (point t)
  unfolding sort_of literal_of constraint_by
  less_so s t c left right = go (is_so (pair Less s t)) refl
    where
      go : (b : Bool) → is_so (pair Less s t) ≡ b → b ≡ less (point s) (point t)
      go true e = sym (told Less s t c left right true is_under e refl refl refl)
      go false e = sym (not-true (less (point s) (point t)) (told Less s t c left right false at_least e refl refl refl))

  up_to_so : (s t : Term) → Contains terms (pair AtMost s t) → sort_of s ≡ Number → sort_of t ≡ Number → is_so (pair AtMost s t) ≡ at_most (point s) (point t)
  unfolding sort_of literal_of constraint_by
  up_to_so s t c left right = go (is_so (pair AtMost s t)) refl
    where
      go : (b : Bool) → is_so (pair AtMost s t) ≡ b → b ≡ at_most (point s) (point t)
      go true e = sym (told AtMost s t c left right true is_up_to e refl refl refl)
      go false e = sym (ap not (not_up_to s t c left right e))

  less_obeys : (s t : Term) → Contains terms (pair Less s t) → sort_of s ≡ Number → sort_of t ≡ Number → Obeys v (pair Less s t)
  unfolding sort_of
  less_obeys s t c left right = λ i. ap truth (less_so s t c left right) ∙ (λ j. truth (less (number_in (sym (number_value s left) j)) (number_in (sym (number_value t right) j))))

  up_to_obeys : (s t : Term) → Contains terms (pair AtMost s t) → sort_of s ≡ Number → sort_of t ≡ Number → Obeys v (pair AtMost s t)
  unfolding sort_of
  up_to_obeys s t c left right = λ i. ap truth (up_to_so s t c left right) ∙ (λ j. truth (at_most (number_in (sym (number_value s left) j)) (number_in (sym (number_value t right) j))))

  numbers_obey : (h : Head) (ts : Terms) → Contains terms (app h ts) → is_of_numbers h ≡ true → Obeys v (app h ts)
  unfolding sort_of
  numbers_obey Plus ts c k = λ i. arithmetic i Plus ts c refl (plus_takes (sorts_of ts) (takes Plus ts c))
  numbers_obey Times ts c k = λ i. arithmetic i Times ts c refl (times_takes (sorts_of ts) (takes Times ts c))
  numbers_obey Minus ts c k = λ i. arithmetic i Minus ts c refl (minus_takes (sorts_of ts) (takes Minus ts c))
  numbers_obey Divide ts c k = λ i. arithmetic i Divide ts c refl (divide_takes (sorts_of ts) (takes Divide ts c))
  numbers_obey (Literal q) ts c k = λ i. number_obeys symbols a.number i (Literal q) ts refl (at_saturation.sorted (app (Literal q) ts) c)
  numbers_obey Less ts c k =
      let two = two_of ts (less_takes (sorts_of ts) (takes Less ts c)) in
      subst (λ us. Contains terms (app Less us) → Obeys v (app Less us)) (sym two.same) (λ d. less_obeys two.s two.t d two.left two.right) c
  numbers_obey AtMost ts c k =
      let two = two_of ts (at_most_takes (sorts_of ts) (takes AtMost ts c)) in
      subst (λ us. Contains terms (app AtMost us) → Obeys v (app AtMost us)) (sym two.same) (λ d. up_to_obeys two.s two.t d two.left two.right) c
  numbers_obey h ts c k = absurd (false≢true k)

-- so where theories agree on shared terms, the numbers are those of a model
pub has_numbers : (symbols : List Symbol) (p : Problem) (terms : List Term) (held : List HeldLiteral) (a : TheoryValues) → IsSaturatedOnNumbers symbols p terms held a
    → HasNumbers terms (term_true_by a.truths) (number_at a.number) a.class
has_numbers symbols p terms held a r = record {
  shared = r.shared;
  shares = r.shares;
  agree = r.agree;
  reduced = point_reduced symbols p terms held a r.saturated_here;
  numbers = λ s t c e. (equal_sides symbols p terms held a r.saturated_here s t c e).1;
  obeys = numbers_obey symbols p terms held a r.saturated_here;
}
