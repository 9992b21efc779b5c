-- Truths that meet the clauses of a term that joins formulas give it the value that its head gives.
use Rattle.std.proofs.Common.{◌≡◌, ℕ, Bool, true, false, not, ◌&&◌, ◌||◌, List, [], ◌∷◌, map, length, Contains, refl, sym, ap, ◌∙◌, subst, arith}
use Rattle.std.specs.List.{list_any}
use Rattle.std.proofs.lemmas.Bool.{false≢true, and_parts}
use Rattle.std.proofs.lemmas.List.{length-map}
use Rattle.spec_sorts.specs.Terms.{Sort, Truth, Number, Head, True, False, Not, And, Or, Xor, Implies, Equal, Ite, Minus, Plus, Times, Divide, Less, AtMost, Literal, Apply, Parameter, Term, Terms, app, nil, cons, list_of, sort_of, same_sort, all_same, head_takes}
use Rattle.spec_sorts.proofs.WellSorted.{same_sort_is}
use Rattle.spec_sorts.specs.Values.{truth, all_true, any_true, Interpretation}
use Rattle.spec_sorts.specs.Literals.{Clause}
use Rattle.spec_sorts.specs.TermValues.{head_value}
use Rattle.spec_sorts.proofs.General.{equal_takes}
use Rattle.spec_rules.specs.Schemes.{yes, no}
use Rattle.spec_rules.specs.Truths.{Truths, term_true_by}
use Rattle.spec_derivations.specs.Base.{clauses_of}
use Rattle.spec_derivations.specs.Models.{joins_formulas, value_by, Obeys}
use Rattle.spec_derivations.proofs.Meeting.{negated_true, alone, with_one, with_two, with_any, with_each, xor_by, implies_by, equal_by, ite_by, none_false, one_true, all_follow, all_lead, same_truth}

-- how many arguments a head takes
not_takes : (ss : List Sort) → head_takes [] Not ss ≡ true → length ss ≡ 1
not_takes (Truth ∷ []) e = refl
not_takes _ e = absurd (false≢true e)

xor_takes : (ss : List Sort) → head_takes [] Xor ss ≡ true → length ss ≡ 2
xor_takes (Truth ∷ Truth ∷ []) e = refl
xor_takes _ e = absurd (false≢true e)

implies_takes : (ss : List Sort) → head_takes [] Implies ss ≡ true → length ss ≡ 2
implies_takes (Truth ∷ Truth ∷ []) e = refl
implies_takes _ e = absurd (false≢true e)

pub ite_takes : (ss : List Sort) → head_takes [] Ite ss ≡ true → length ss ≡ 3
ite_takes (Truth ∷ s ∷ t ∷ []) e = refl
ite_takes _ e = absurd (false≢true e)

one_argument : (ts : Terms) → length (list_of ts) ≡ 1 → (a : Term) × (ts ≡ cons a nil)
one_argument nil e = absurd (omega (arith, e))
one_argument (cons a nil) e = (a, refl)
one_argument (cons a (cons b us)) e = absurd (omega (arith, e))

two_arguments : (ts : Terms) → length (list_of ts) ≡ 2 → (a : Term) × (b : Term) × (ts ≡ cons a (cons b nil))
two_arguments nil e = absurd (omega (arith, e))
two_arguments (cons a nil) e = absurd (omega (arith, e))
two_arguments (cons a (cons b nil)) e = (a, b, refl)
two_arguments (cons a (cons b (cons c us))) e = absurd (omega (arith, e))

three_arguments : (ts : Terms) → length (list_of ts) ≡ 3 → (a : Term) × (b : Term) × (c : Term) × (ts ≡ cons a (cons b (cons c nil)))
three_arguments nil e = absurd (omega (arith, e))
three_arguments (cons a nil) e = absurd (omega (arith, e))
three_arguments (cons a (cons b nil)) e = absurd (omega (arith, e))
three_arguments (cons a (cons b (cons c nil))) e = (a, b, c, refl)
three_arguments (cons a (cons b (cons c (cons d us)))) e = absurd (omega (arith, e))

-- the head takes the arguments, which are of sort Bool
abbrev is_formula : Term → Bool
is_formula (app h ts) = head_takes [] h (map sort_of (list_of ts)) && all_same Truth (map sort_of (list_of ts))

-- the number of such arguments
counted : (h : Head) (n : ℕ) (ts : Terms) → ((ss : List Sort) → head_takes [] h ss ≡ true → length ss ≡ n) → is_formula (app h ts) ≡ true → length (list_of ts) ≡ n
counted h n ts takes f = sym (length-map (list_of ts) sort_of) ∙ takes (map sort_of (list_of ts)) (and_parts (head_takes [] h (map sort_of (list_of ts))) (all_same Truth (map sort_of (list_of ts))) f).0

pub number_differs : Number ≡ Truth → ⊥
number_differs e = false≢true (ap (same_sort Truth) e)

module _ (v : Truths) where
  -- each of the term's clauses is met
  abbrev pub IsMet : Term → Type 0
  IsMet t = (c : Clause) → Contains (clauses_of t) c → list_any (term_true_by v) c ≡ true

  -- the term has the value of its head
  abbrev Gives : Head → Terms → Type 0
  Gives h ts = is_formula (app h ts) ≡ true → IsMet (app h ts) → (i : Interpretation) → value_by v (app h ts) ≡ head_value i h (map (value_by v) (list_of ts))

  true_gives : (ts : Terms) → Gives True ts
  true_gives ts f met i =
      let e : term_true_by v (app True ts) || false ≡ true = alone v (app True ts) met True true (0, omega arith, refl) f in
      ap truth (go (term_true_by v (app True ts)) e)
    where
      go : (p : Bool) → p || false ≡ true → p ≡ true
      go p e = grind (arith, e)

  false_gives : (ts : Terms) → Gives False ts
  false_gives ts f met i =
      let e : not (term_true_by v (app False ts)) || false ≡ true = alone v (app False ts) met False false (1, omega arith, refl) f in
      ap truth (go (term_true_by v (app False ts)) e)
    where
      go : (p : Bool) → not p || false ≡ true → p ≡ false
      go p e = grind (arith, e)

  and_gives : (ts : Terms) → Gives And ts
  and_gives ts f met i =
      let p = term_true_by v (app And ts) in
      let q = all_true (map (value_by v) (list_of ts)) in
      let down : not p || q ≡ true = all_follow v p (list_of ts) (with_any v (app And ts) met And false true (2, omega arith, refl) f) in
      let up : p || not q ≡ true = ap (λ b. p || b) (sym (none_false v (list_of ts))) ∙ with_each v (app And ts) met And true false (3, omega arith, refl) f in
      ap truth (same_truth p q down up)

  or_gives : (ts : Terms) → Gives Or ts
  or_gives ts f met i =
      let p = term_true_by v (app Or ts) in
      let q = any_true (map (value_by v) (list_of ts)) in
      let down : not p || q ≡ true = ap (λ b. not p || b) (sym (one_true v (list_of ts))) ∙ with_each v (app Or ts) met Or false true (4, omega arith, refl) f in
      let up : p || not q ≡ true = all_lead v p (list_of ts) (with_any v (app Or ts) met Or true false (5, omega arith, refl) f) in
      ap truth (same_truth p q down up)

  not_gives : (a : Term) → Gives Not (cons a nil)
  not_gives a f met i = ap truth (negated_true v a ∙ go (term_true_by v a))
    where
      go : (p : Bool) → not p ≡ not (p && true)
      go p = grind arith

  implies_gives : (a b : Term) → Gives Implies (cons a (cons b nil))
  implies_gives a b f met i =
      let t = app Implies (cons a (cons b nil)) in
      ap truth (implies_by (term_true_by v t) (term_true_by v a) (term_true_by v b)
      (with_two v t met Implies false (no 0) (yes 1) (6, omega arith, refl) f)
      (with_one v t met Implies true (yes 0) (7, omega arith, refl) f)
      (with_one v t met Implies true (no 1) (8, omega arith, refl) f))

  equal_gives : (a b : Term) → Gives Equal (cons a (cons b nil))
  equal_gives a b f met i =
      let t = app Equal (cons a (cons b nil)) in
      ap truth (equal_by (term_true_by v t) (term_true_by v a) (term_true_by v b)
      (with_two v t met Equal false (yes 0) (no 1) (9, omega arith, refl) f)
      (with_two v t met Equal false (no 0) (yes 1) (10, omega arith, refl) f)
      (with_two v t met Equal true (no 0) (no 1) (11, omega arith, refl) f)
      (with_two v t met Equal true (yes 0) (yes 1) (12, omega arith, refl) f))

  xor_gives : (a b : Term) → Gives Xor (cons a (cons b nil))
  xor_gives a b f met i =
      let t = app Xor (cons a (cons b nil)) in
      ap truth (xor_by (term_true_by v t) (term_true_by v a) (term_true_by v b)
      (with_two v t met Xor false (yes 0) (yes 1) (13, omega arith, refl) f)
      (with_two v t met Xor false (no 0) (no 1) (14, omega arith, refl) f)
      (with_two v t met Xor true (yes 0) (no 1) (15, omega arith, refl) f)
      (with_two v t met Xor true (no 0) (yes 1) (16, omega arith, refl) f))

  ite_gives : (c a b : Term) → Gives Ite (cons c (cons a (cons b nil)))
  ite_gives c a b f met i =
      let t = app Ite (cons c (cons a (cons b nil))) in
      ite_by (term_true_by v t) (term_true_by v c) (term_true_by v a) (term_true_by v b)
      (with_two v t met Ite false (yes 0) (yes 2) (17, omega arith, refl) f)
      (with_two v t met Ite false (no 0) (yes 1) (18, omega arith, refl) f)
      (with_two v t met Ite true (yes 0) (no 2) (19, omega arith, refl) f)
      (with_two v t met Ite true (no 0) (no 1) (20, omega arith, refl) f)

  -- of one, two or three arguments
  given_one : (h : Head) (ts : Terms) → ((ss : List Sort) → head_takes [] h ss ≡ true → length ss ≡ 1) → ((a : Term) → Gives h (cons a nil)) → Gives h ts
  given_one h ts takes gives f = let x = one_argument ts (counted h 1 ts takes f) in subst (Gives h) (sym x.1) (gives x.0) f

  given_two : (h : Head) (ts : Terms) → ((ss : List Sort) → head_takes [] h ss ≡ true → length ss ≡ 2) → ((a b : Term) → Gives h (cons a (cons b nil))) → Gives h ts
  given_two h ts takes gives f = let x = two_arguments ts (counted h 2 ts takes f) in subst (Gives h) (sym x.2) (gives x.0 x.1) f

  given_three : (h : Head) (ts : Terms) → ((ss : List Sort) → head_takes [] h ss ≡ true → length ss ≡ 3) → ((a b c : Term) → Gives h (cons a (cons b (cons c nil)))) → Gives h ts
  given_three h ts takes gives f = let x = three_arguments ts (counted h 3 ts takes f) in subst (Gives h) (sym x.3) (gives x.0 x.1 x.2) f

  -- numbers are no truth values, and neither are their arguments
  none_below : (ss : List Sort) → head_takes [] Less ss ≡ true → all_same Truth ss ≡ true → ⊥
  none_below (Number ∷ Number ∷ []) e f = false≢true f
  none_below _ e f = false≢true e

  none_at_most : (ss : List Sort) → head_takes [] AtMost ss ≡ true → all_same Truth ss ≡ true → ⊥
  none_at_most (Number ∷ Number ∷ []) e f = false≢true f
  none_at_most _ e f = false≢true e

  none_parameter : (k : ℕ) (s : Sort) (ss : List Sort) → head_takes [] (Parameter k s) ss ≡ true → ⊥
  none_parameter k s [] e = false≢true e
  none_parameter k s (_ ∷ _) e = false≢true e

  by_formula : (h : Head) (ts : Terms) → is_formula (app h ts) ≡ true → sort_of (app h ts) ≡ Truth → IsMet (app h ts) → Obeys v (app h ts)
  unfolding sort_of
  by_formula True ts f e met = true_gives ts f met
  by_formula False ts f e met = false_gives ts f met
  by_formula Not ts f e met = given_one Not ts not_takes not_gives f met
  by_formula And ts f e met = and_gives ts f met
  by_formula Or ts f e met = or_gives ts f met
  by_formula Xor ts f e met = given_two Xor ts xor_takes xor_gives f met
  by_formula Implies ts f e met = given_two Implies ts implies_takes implies_gives f met
  by_formula Equal ts f e met = given_two Equal ts equal_takes equal_gives f met
  by_formula Ite ts f e met = given_three Ite ts ite_takes ite_gives f met
  by_formula Less ts f e met = let parts = and_parts (head_takes [] Less (map sort_of (list_of ts))) (all_same Truth (map sort_of (list_of ts))) f in absurd (none_below (map sort_of (list_of ts)) parts.0 parts.1)
  by_formula AtMost ts f e met = let parts = and_parts (head_takes [] AtMost (map sort_of (list_of ts))) (all_same Truth (map sort_of (list_of ts))) f in absurd (none_at_most (map sort_of (list_of ts)) parts.0 parts.1)
  by_formula (Parameter k s) ts f e met = let parts = and_parts (head_takes [] (Parameter k s) (map sort_of (list_of ts))) (all_same Truth (map sort_of (list_of ts))) f in absurd (none_parameter k s (map sort_of (list_of ts)) parts.0)
  by_formula (Apply s) ts f e met = tt
  by_formula Minus ts f e met = absurd (number_differs e)
  by_formula Plus ts f e met = absurd (number_differs e)
  by_formula Times ts f e met = absurd (number_differs e)
  by_formula Divide ts f e met = absurd (number_differs e)
  by_formula (Literal q) ts f e met = absurd (number_differs e)

  pub obeyed : (t : Term) → joins_formulas t ≡ true → IsMet t → Obeys v t
  obeyed (app h ts) j met = let parts = and_parts (is_formula (app h ts)) (same_sort Truth (sort_of (app h ts))) j in by_formula h ts parts.0 (sym (same_sort_is Truth (sort_of (app h ts)) parts.1)) met
