-- Truths, numbers and classes that fit together give values that do.
use Rattle.std.proofs.Common.{◌≡◌, ◌≢◌, ℕ, Bool, true, false, List, [], ◌∷◌, length, map, Contains, refl, sym, ap, ◌∙◌, cond, inl, inr, arith}
use Rattle.std.proofs.lemmas.Bool.{false≢true}
use Rattle.spec_text.proofs.Members.{first, later, cases, none}
use Rattle.spec_numbers.specs.Fractions.{Fraction, IsReduced}
use Rattle.spec_sorts.specs.Terms.{Sort, Truth, Number, Declared, Symbol, Equal, Ite, Apply, Term, Terms, app, nil, cons, of, list_of, sort_of, sorts_of, head_takes}
use Rattle.spec_sorts.specs.Values.{Value, truth, number, element, same_value, is_true, HasSort, chosen}
use Rattle.spec_sorts.proofs.SameTerms.{one_sorts}
use Rattle.spec_sorts.proofs.WellSorted.{same_sort_is, choice_takes}
use Rattle.spec_equality.specs.Congruence.{truth_term}
use Rattle.spec_derivations.proofs.Obeying.{ite_takes, number_differs}
use Rattle.spec_valuations.specs.Tables.{Valuation, values_by, IsFunctional, Obeys, AreListed, IsValuation}
use Rattle.spec_valuations.specs.Classes.{value_in, value_by, AreJoint}
use Rattle.spec_valuations.proofs.SameValues.{value-Decides}

-- what values of one sort are made of
abbrev truth_in : Value → Bool
truth_in (truth b) = b
truth_in _ = false

abbrev number_or : Fraction → Value → Fraction
number_or q (number p) = p
number_or q _ = q

abbrev element_in : Value → ℕ
element_in (element n k) = k
element_in _ = 0

-- a value has the sort that it is made for
sort_in : (s : Sort) (b : Bool) (q : Fraction) (k : ℕ) → (s ≡ Number → IsReduced q) → HasSort s (value_in s b q k)
sort_in Truth b q k reduced = tt
sort_in Number b q k reduced = reduced refl
sort_in (Declared n) b q k reduced = refl

-- of one list after another
abbrev head_in : {A : Type 0} → A → List A → A
head_in d [] = d
head_in d (x ∷ xs) = x

abbrev tail_in : {A : Type 0} → List A → List A
tail_in [] = []
tail_in (x ∷ xs) = xs

-- bits that follow from each other are one
one_bit : (a b : Bool) → (a ≡ true → b ≡ true) → (b ≡ true → a ≡ true) → a ≡ b
one_bit true b f g = sym (f refl)
one_bit false true f g = g refl
one_bit false false f g = refl

some_are : (t : Term) (ts : List Term) → t ∷ ts ≢ []
some_are t ts e = cc

declared_differs : (n : List ℕ) → Declared n ≡ Truth → ⊥
declared_differs n e = cc

module _ (truths : Term → Bool) (point : Term → Fraction) (class : Term → ℕ) (symbols : List Symbol) (terms shared : List Term) (listed : AreListed symbols terms) (joint : AreJoint truths point class terms shared) where
  abbrev v : Valuation
  v = value_by truths point class

  -- a listed term that is shared where it is a number
  record IsUsed (t : Term) : Type 0 where
    there : Contains terms t
    is_shared : sort_of t ≡ Number → Contains shared t

  -- the value of a term of a sort
  in_sort : (t : Term) (s : Sort) → sort_of t ≡ s → v t ≡ value_in s (truths t) (point t) (class t)
  in_sort t s e = ap (λ x. value_in x (truths t) (point t) (class t)) e

  -- truth values that have one class are one
  one_truth : (a b : Bool) → class (truth_term a) ≡ class (truth_term b) → a ≡ b
  one_truth true true e = refl
  one_truth false false e = refl
  one_truth true false e = absurd (joint.classes.apart e)
  one_truth false true e = absurd (joint.classes.apart (sym e))

  -- one value, one class
  one_class : (t u : Term) → IsUsed t → IsUsed u → sort_of t ≡ sort_of u → v t ≡ v u → class t ≡ class u
  one_class t u a b e f = go (sort_of t) refl (sym e) (f ∙ ap (λ s. value_in s (truths u) (point u) (class u)) (sym e))
    where
      go : (s : Sort) → sort_of t ≡ s → sort_of u ≡ s → value_in s (truths t) (point t) (class t) ≡ value_in s (truths u) (point u) (class u) → class t ≡ class u
      go Truth st su same = joint.classes.truth_classes t a.there st ∙ ap (λ x. class (truth_term (truth_in x))) same ∙ sym (joint.classes.truth_classes u b.there su)
      go Number st su same = (joint.agree.same t u (a.is_shared st) (b.is_shared su)).0 (ap (number_or (point t)) same)
      go (Declared n) st su same = ap element_in same

  -- one class, one value
  one_worth : (t u : Term) → IsUsed t → IsUsed u → sort_of t ≡ sort_of u → class t ≡ class u → v t ≡ v u
  one_worth t u a b e f = go (sort_of t) refl (sym e) ∙ ap (λ s. value_in s (truths u) (point u) (class u)) e
    where
      go : (s : Sort) → sort_of t ≡ s → sort_of u ≡ s → value_in s (truths t) (point t) (class t) ≡ value_in s (truths u) (point u) (class u)
      go Truth st su = ap truth (one_truth (truths t) (truths u) (sym (joint.classes.truth_classes t a.there st) ∙ f ∙ joint.classes.truth_classes u b.there su))
      go Number st su = ap number ((joint.agree.same t u (a.is_shared st) (b.is_shared su)).1 f)
      go (Declared n) st su = ap (element n) f

  -- so arguments of the same values have the same classes
  same_classes : (ts us : Terms) → ((u : Term) → Contains (list_of ts) u → IsUsed u) → ((u : Term) → Contains (list_of us) u → IsUsed u)
      → sorts_of ts ≡ sorts_of us → values_by v ts ≡ values_by v us → map class (list_of ts) ≡ map class (list_of us)
  same_classes nil nil f g e h = refl
  same_classes nil (cons u us) f g e h = absurd (omega (arith, ap length e))
  same_classes (cons t ts) nil f g e h = absurd (omega (arith, ap length e))
  same_classes (cons t ts) (cons u us) f g e h =
      let here = one_class t u (f t (first t (list_of ts))) (g u (first u (list_of us))) (ap (head_in Truth) e) (ap (head_in (truth false)) h) in
      let rest = same_classes ts us (λ x c. f x (later t (list_of ts) x c)) (λ x c. g x (later u (list_of us) x c)) (ap tail_in e) (ap tail_in h) in
      λ i. here i ∷ rest i

  used : (s : Symbol) (ts : Terms) → Contains terms (app (Apply s) ts) → (u : Term) → Contains (list_of ts) u → IsUsed u
  used s ts c u d = record { there = listed.arguments (Apply s) ts c u d; is_shared = λ e. joint.shares.arguments s ts u c d e }

  functional : IsFunctional v terms
  unfolding sort_of
  functional s nil nil c d e = refl
  functional s nil (cons u us) c d e = absurd (omega (arith, ap length e))
  functional s (cons t ts) nil c d e = absurd (omega (arith, ap length e))
  functional s (cons t ts) (cons u us) c d e =
      let left = cons t ts in
      let right = cons u us in
      let sorts_left = one_sorts s.parameters (sorts_of left) (listed.takes (Apply s) left c) in
      let sorts_right = one_sorts s.parameters (sorts_of right) (listed.takes (Apply s) right d) in
      one_worth (app (Apply s) left) (app (Apply s) right)
      (record { there = c; is_shared = λ f. joint.shares.values s left c (some_are t (list_of ts)) f })
      (record { there = d; is_shared = λ f. joint.shares.values s right d (some_are u (list_of us)) f })
      refl
      (joint.classes.congruent s left right c d (same_classes left right (used s left c) (used s right d) (sym sorts_left ∙ sorts_right) e))

  -- an equality has the value of its head at its sides' values
  equal_obeys : (s t : Term) → Contains terms (of Equal (s ∷ t ∷ [])) → (so : Sort) → so ≢ Truth → sort_of s ≡ so → sort_of t ≡ so → truths (of Equal (s ∷ t ∷ [])) ≡ same_value (v s) (v t)
  equal_obeys s t c Truth other es et = absurd (other refl)
  equal_obeys s t c Number other es et =
      let tells = joint.numbers s t c es in
      one_bit (truths (of Equal (s ∷ t ∷ []))) (same_value (v s) (v t))
      (λ e. (value-Decides (v s) (v t)).1 (in_sort s Number es ∙ ap number (tells.0 e) ∙ sym (in_sort t Number et)))
      (λ e. tells.1 (ap (number_or (point s)) (sym (in_sort s Number es) ∙ (value-Decides (v s) (v t)).0 e ∙ in_sort t Number et)))
  equal_obeys s t c (Declared n) other es et =
      let tells = joint.classes.equalities s t n c es in
      one_bit (truths (of Equal (s ∷ t ∷ []))) (same_value (v s) (v t))
      (λ e. (value-Decides (v s) (v t)).1 (in_sort s (Declared n) es ∙ ap (element n) (tells.0 e) ∙ sym (in_sort t (Declared n) et)))
      (λ e. tells.1 (ap element_in (sym (in_sort s (Declared n) es) ∙ (value-Decides (v s) (v t)).0 e ∙ in_sort t (Declared n) et)))

  -- the two arguments of an equality
  pair_obeys : (ts : Terms) → Contains terms (app Equal ts) → head_takes [] Equal (sorts_of ts) ≡ true → Obeys v (app Equal ts)
  unfolding sort_of
  pair_obeys (cons s (cons t nil)) c e = go (sort_of s) refl (same_sort_is (sort_of s) (sort_of t) e)
    where
      go : (so : Sort) → sort_of s ≡ so → sort_of s ≡ sort_of t → Obeys v (app Equal (cons s (cons t nil)))
      go Truth es et = joint.formulas (app Equal (cons s (cons t nil))) c (λ u d. elim (cases s (t ∷ []) u d) [
        | inl is ↦ ap sort_of (sym is) ∙ es
        | inr d ↦ elim (cases t [] u d) [ inl is ↦ ap sort_of (sym is) ∙ sym et ∙ es | inr d ↦ absurd (none u d) ]
      ])
      go Number es et = λ i. ap truth (equal_obeys s t c Number number_differs es (sym et ∙ es))
      go (Declared n) es et = λ i. ap truth (equal_obeys s t c (Declared n) (declared_differs n) es (sym et ∙ es))
  pair_obeys _ c e = absurd (false≢true e)

  -- a choice has the value of the branch that its condition's value chooses
  choice_obeys : (c a b : Term) → Contains terms (of Ite (c ∷ a ∷ b ∷ [])) → sort_of c ≡ Truth → sort_of a ≢ Truth → v (of Ite (c ∷ a ∷ b ∷ [])) ≡ chosen (v c ∷ v a ∷ v b ∷ [])
  choice_obeys c a b i ec other = go (truths c) refl
    where
      by : v c ≡ truth (truths c)
      by = in_sort c Truth ec

      go : (x : Bool) → truths c ≡ x → v (of Ite (c ∷ a ∷ b ∷ [])) ≡ cond (is_true (v c)) (v a) (v b)
      go true e = (joint.choices c a b i other).0 e ∙ ap (λ x. cond (is_true x) (v a) (v b)) (sym (by ∙ ap truth e))
      go false e = (joint.choices c a b i other).1 e ∙ ap (λ x. cond (is_true x) (v a) (v b)) (sym (by ∙ ap truth e))

  three_obeys : (ts : Terms) → Contains terms (app Ite ts) → head_takes [] Ite (sorts_of ts) ≡ true → Obeys v (app Ite ts)
  three_obeys (cons c (cons a (cons b nil))) i e = let h = choice_takes (sort_of c) (sort_of a) (sort_of b) e in go (sort_of a) refl h.0 h.1
    where
      go : (so : Sort) → sort_of a ≡ so → sort_of c ≡ Truth → sort_of a ≡ sort_of b → Obeys v (app Ite (cons c (cons a (cons b nil))))
      go Truth ea ec eb = joint.formulas (app Ite (cons c (cons a (cons b nil)))) i (λ u d. elim (cases c (a ∷ b ∷ []) u d) [
        | inl is ↦ ap sort_of (sym is) ∙ ec
        | inr d ↦ elim (cases a (b ∷ []) u d) [
          | inl is ↦ ap sort_of (sym is) ∙ ea
          | inr d ↦ elim (cases b [] u d) [ inl is ↦ ap sort_of (sym is) ∙ sym eb ∙ ea | inr d ↦ absurd (none u d) ]
        ]
      ])
      go Number ea ec eb = λ j. choice_obeys c a b i ec (λ t. number_differs (sym ea ∙ t))
      go (Declared n) ea ec eb = λ j. choice_obeys c a b i ec (λ t. declared_differs n (sym ea ∙ t))
  three_obeys nil i e = absurd (omega (arith, ite_takes [] e))
  three_obeys (cons c nil) i e = absurd (omega (arith, ite_takes (sort_of c ∷ []) e))
  three_obeys (cons c (cons a nil)) i e = absurd (omega (arith, ite_takes (sort_of c ∷ sort_of a ∷ []) e))
  three_obeys (cons c (cons a (cons b (cons d ts)))) i e = absurd (omega (arith, ite_takes (sorts_of (cons c (cons a (cons b (cons d ts))))) e))

  obeys : (t : Term) → Contains terms t → Obeys v t
  obeys (app (Apply s) ts) c = tt
  obeys (app Equal ts) c = pair_obeys ts c (listed.takes Equal ts c)
  obeys (app Ite ts) c = three_obeys ts c (listed.takes Ite ts c)
  obeys (app h ts) c = joint.formulas (app h ts) c tt

  pub is_valuation : IsValuation v terms
  is_valuation = record { sorts = λ t c. sort_in (sort_of t) (truths t) (point t) (class t) (joint.reduced t c); functional = functional; obeys = obeys }
