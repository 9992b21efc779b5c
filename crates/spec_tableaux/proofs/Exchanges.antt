-- An exchange keeps the solutions.
use Rattle.std.proofs.Common.{◌≡◌, ℕ, Bool, true, false, List, [], ◌∷◌, refl, sym, ◌∙◌, ap, arith, cond, ◌==◌, ◌||◌, map, ◌↔◌, subst}
use Rattle.std.proofs.lemmas.Bool.{or_parts}
use Rattle.std.proofs.lemmas.Bool.Decides.{nat_tests}
use Rattle.spec_tableaux.specs.Spaces.{Space, IsSpace}
use Rattle.spec_tableaux.specs.Rows.{negated, pivot_row, Pivot, sum_of, put, pivot_of, Entry, coefficient_of, without, Holds, row_of, substituted, minus_times, Row, is_basic, Solves, exchanged_row, exchanged, substituted_row, AreDistinct}
use Rattle.spec_tableaux.proofs.Groups.{negated_product}
use Rattle.spec_tableaux.proofs.Signs.{opposite_is}
use Rattle.spec_tableaux.proofs.Sums.{plus_origin_right, sum_put, sum_negated, sum_quotients, opposite_scale, sum_without, sum_minus}

-- i being one over a
solve : {A V : Type 0} (s : Space A V) → IsSpace s → (a i : A) → s.numbers.times i a ≡ s.numbers.one → (x y W : V)
    → y ≡ s.plus (s.scale a x) W → x ≡ s.plus (s.scale (s.numbers.times s.numbers.one i) y) (s.scale (s.numbers.opposite i) W)
solve s l a i e x y W h =
    let one : s.scale (s.numbers.times s.numbers.one i) y ≡ s.plus x (s.scale i W) =
    ap (λ t. s.scale t y) (l.numbers.product_one i) ∙ ap (s.scale i) h ∙ l.scale_plus i _ W ∙ ap (λ t. s.plus t (s.scale i W)) (sym (l.product_scale i a x) ∙ ap (λ t. s.scale t x) e ∙ l.one_scale x) in
    let none : s.plus (s.scale i W) (s.scale (s.numbers.opposite i) W) ≡ s.origin =
    sym (l.sum_scale i (s.numbers.opposite i) W) ∙ ap (λ t. s.scale t W) (l.numbers.sum_commutative i (s.numbers.opposite i) ∙ l.numbers.sum_opposite i) ∙ l.zero_scale W in
    sym (ap (λ t. s.plus t (s.scale (s.numbers.opposite i) W)) one ∙ l.plus_associative _ _ _ ∙ ap (s.plus x) none ∙ plus_origin_right s l x)

opposite_product : {A V : Type 0} (s : Space A V) → IsSpace s → (a b : A) → s.numbers.times a (s.numbers.opposite b) ≡ s.numbers.opposite (s.numbers.times b a)
opposite_product s l a b = l.numbers.product_commutative a (s.numbers.opposite b) ∙ sym (negated_product s.numbers.times s.numbers.opposite s.numbers.one l.numbers.product_associative l.numbers.product_commutative (opposite_is s.numbers l.numbers) a b) ∙ ap s.numbers.opposite (l.numbers.product_commutative a b)

back : {A V : Type 0} (s : Space A V) → IsSpace s → (a i : A) → s.numbers.times i a ≡ s.numbers.one → (x y W : V)
    → x ≡ s.plus (s.scale (s.numbers.times s.numbers.one i) y) (s.scale (s.numbers.opposite i) W) → y ≡ s.plus (s.scale a x) W
back s l a i e x y W h =
    let left : s.scale a (s.scale (s.numbers.times s.numbers.one i) y) ≡ y =
    sym (l.product_scale a _ y) ∙ ap (λ t. s.scale (s.numbers.times a t) y) (l.numbers.product_one i) ∙ ap (λ t. s.scale t y) (l.numbers.product_commutative a i ∙ e) ∙ l.one_scale y in
    let right : s.scale a (s.scale (s.numbers.opposite i) W) ≡ s.scale (s.numbers.opposite s.numbers.one) W =
    sym (l.product_scale a _ W) ∙ ap (λ t. s.scale t W) (opposite_product s l a i ∙ ap s.numbers.opposite e) in
    let none : s.plus (s.scale (s.numbers.opposite s.numbers.one) W) W ≡ s.origin =
    ap (s.plus (s.scale (s.numbers.opposite s.numbers.one) W)) (sym (l.one_scale W)) ∙ sym (l.sum_scale (s.numbers.opposite s.numbers.one) s.numbers.one W) ∙ ap (λ t. s.scale t W) (l.numbers.sum_opposite s.numbers.one) ∙ l.zero_scale W in
    sym (ap (λ t. s.plus (s.scale a t) W) h ∙ ap (λ t. s.plus t W) (l.scale_plus a _ _ ∙ (λ j. s.plus (left j) (right j))) ∙ l.plus_associative _ _ W ∙ ap (s.plus y) none ∙ plus_origin_right s l y)

sum_pivot_row : {A V : Type 0} (s : Space A V) → IsSpace s → (v : ℕ → V) (t : Pivot A)
    → sum_of s v (pivot_row s.numbers t).entries ≡ s.plus (s.scale t.factor (v t.leaving)) (s.scale (s.numbers.opposite s.numbers.one) (sum_of s v t.others))
sum_pivot_row s l v t = sum_put s l v t.leaving t.factor (negated s.numbers t.others) ∙ ap (s.plus (s.scale t.factor (v t.leaving))) (sum_negated s l v t.others)

sum_pivot_of : {A V : Type 0} (s : Space A V) → IsSpace s → (v : ℕ → V) (b x : ℕ) (es : List (Entry A))
    → sum_of s v (pivot_row s.numbers (pivot_of s.numbers b x es)).entries ≡ s.plus (s.scale (s.numbers.times s.numbers.one (s.numbers.inverse (coefficient_of s.numbers x es))) (v b)) (s.scale (s.numbers.opposite (s.numbers.inverse (coefficient_of s.numbers x es))) (sum_of s v (without x es)))
sum_pivot_of s l v b x es = sum_pivot_row s l v (pivot_of s.numbers b x es) ∙ ap (s.plus (s.scale (s.numbers.times s.numbers.one (s.numbers.inverse (coefficient_of s.numbers x es))) (v b)))
    (ap (s.scale (s.numbers.opposite s.numbers.one)) (sum_quotients s l v (coefficient_of s.numbers x es) (without x es)) ∙ sym (opposite_scale s l (s.numbers.inverse (coefficient_of s.numbers x es)) _))

pub pivot_row_holds : {A V : Type 0} (s : Space A V) → IsSpace s → (v : ℕ → V) (b x : ℕ) (es : List (Entry A)) → s.numbers.is_zero (coefficient_of s.numbers x es) ≡ false
    → v b ≡ sum_of s v es → Holds s v (pivot_row s.numbers (pivot_of s.numbers b x es))
pivot_row_holds s l v b x es n h = record {
  is = solve s l (coefficient_of s.numbers x es) (s.numbers.inverse (coefficient_of s.numbers x es)) (l.numbers.product_inverse _ n) (v x) (v b) (sum_of s v (without x es)) (h ∙ sym (sum_without s l v x es))
      ∙ sym (sum_pivot_of s l v b x es);
}

pub row_of_pivot : {A V : Type 0} (s : Space A V) → IsSpace s → (v : ℕ → V) (b x : ℕ) (es : List (Entry A)) → s.numbers.is_zero (coefficient_of s.numbers x es) ≡ false
    → Holds s v (pivot_row s.numbers (pivot_of s.numbers b x es)) → v b ≡ sum_of s v es
row_of_pivot s l v b x es n h =
    back s l (coefficient_of s.numbers x es) (s.numbers.inverse (coefficient_of s.numbers x es)) (l.numbers.product_inverse _ n) (v x) (v b) (sum_of s v (without x es)) (h.is ∙ sum_pivot_of s l v b x es)
    ∙ sum_without s l v x es

-- c times what the entering variable is
part : {A V : Type 0} (s : Space A V) → IsSpace s → (c k : A) (y O X W : V) → X ≡ s.plus (s.scale k y) (s.scale (s.numbers.opposite s.numbers.one) O)
    → s.plus (s.scale (s.numbers.times c k) y) (s.plus W (s.scale (s.numbers.opposite c) O)) ≡ s.plus (s.scale c X) W
part s l c k y O X W h =
    let right : s.scale c (s.scale (s.numbers.opposite s.numbers.one) O) ≡ s.scale (s.numbers.opposite c) O = sym (l.product_scale c (s.numbers.opposite s.numbers.one) O) ∙ ap (λ z. s.scale z O) (l.numbers.product_commutative c (s.numbers.opposite s.numbers.one) ∙ sym ((opposite_is s.numbers l.numbers) c)) in
    let whole : s.scale c X ≡ s.plus (s.scale (s.numbers.times c k) y) (s.scale (s.numbers.opposite c) O) = ap (s.scale c) h ∙ l.scale_plus c _ _ ∙ (λ i. s.plus (sym (l.product_scale c k y) i) (right i)) in
    ap (s.plus (s.scale (s.numbers.times c k) y)) (l.plus_commutative W _) ∙ sym (l.plus_associative _ _ W) ∙ ap (λ z. s.plus z W) (sym whole)

sum_substituted : {A V : Type 0} (s : Space A V) → IsSpace s → (v : ℕ → V) (t : Pivot A) (es : List (Entry A)) → v t.entering ≡ sum_of s v (pivot_row s.numbers t).entries
    → sum_of s v (substituted s.numbers t (coefficient_of s.numbers t.entering es) es) ≡ sum_of s v es
sum_substituted s l v t es h = by (s.numbers.is_zero (coefficient_of s.numbers t.entering es))
  where
    by : (q : Bool) → sum_of s v (cond q es (put s.numbers t.leaving (s.numbers.times (coefficient_of s.numbers t.entering es) t.factor) (minus_times s.numbers (without t.entering es) (coefficient_of s.numbers t.entering es) t.others))) ≡ sum_of s v es
    by true = refl
    by false = sum_put s l v t.leaving _ (minus_times s.numbers (without t.entering es) (coefficient_of s.numbers t.entering es) t.others)
        ∙ ap (s.plus (s.scale (s.numbers.times (coefficient_of s.numbers t.entering es) t.factor) (v t.leaving))) (sum_minus s l v (coefficient_of s.numbers t.entering es) (without t.entering es) t.others)
        ∙ part s l (coefficient_of s.numbers t.entering es) t.factor (v t.leaving) (sum_of s v t.others) (v t.entering) (sum_of s v (without t.entering es)) (h ∙ sum_pivot_row s l v t)
        ∙ sum_without s l v t.entering es

pub row_holds : {A V : Type 0} (s : Space A V) (v : ℕ → V) (b : ℕ) (rs : List (Row A)) → is_basic b rs ≡ true → Solves s v rs → Holds s v (row_of b rs)
row_holds s v b [] m h = cc
row_holds s v b (r ∷ rs) m h = by (r.basic == b) m (row_holds s v b rs)
  where
    by : (q : Bool) → (q || is_basic b rs) ≡ true → (is_basic b rs ≡ true → Solves s v rs → Holds s v (row_of b rs)) → Holds s v (cond q r (row_of b rs))
    by true m g = h.0
    by false m g = g m h.1

eqb_is : (a b : ℕ) → (a == b) ≡ true → a ≡ b
eqb_is a b h = grind (arith, nat_tests)

-- the row of b has the basic variable b
pub row_of_basic : {A : Type 0} (b : ℕ) (rs : List (Row A)) → (row_of b rs).basic ≡ b
row_of_basic b [] = refl
row_of_basic b (r ∷ rs) = by (r.basic == b) refl (row_of_basic b rs)
  where
    by : (q : Bool) → (r.basic == b) ≡ q → (row_of b rs).basic ≡ b → (cond q r (row_of b rs)).basic ≡ b
    by true h g = eqb_is r.basic b h
    by false h g = g

pub or_none : (p q : Bool) → p ≡ false → q ≡ false → (p || q) ≡ false
or_none true q h k = h
or_none false q h k = k

-- a row that isn't the leaving one
one_other : {A V : Type 0} (s : Space A V) → IsSpace s → (v : ℕ → V) (t : Pivot A) (r : Row A) → (r.basic == t.leaving) ≡ false → Holds s v (pivot_row s.numbers t)
    → Holds s v (exchanged_row s.numbers t r) ↔ Holds s v r
one_other s l v t r e nx = by (r.basic == t.leaving) e
  where
    by : (q : Bool) → q ≡ false → Holds s v (cond q (pivot_row s.numbers t) (substituted_row s.numbers t r)) ↔ Holds s v r
    by true e = absurd (cc)
    by false e = (λ h. record { is = h.is ∙ sum_substituted s l v t r.entries nx.is }, λ h. record { is = h.is ∙ sym (sum_substituted s l v t r.entries nx.is) })

all_others : {A V : Type 0} (s : Space A V) → IsSpace s → (v : ℕ → V) (t : Pivot A) (rs : List (Row A)) → is_basic t.leaving rs ≡ false → Holds s v (pivot_row s.numbers t)
    → Solves s v (map (exchanged_row s.numbers t) rs) ↔ Solves s v rs
all_others s l v t [] e nx = (λ h. tt, λ h. tt)
all_others s l v t (r ∷ rs) e nx =
    let one = one_other s l v t r (or_parts _ _ e).0 nx in
    let rest = all_others s l v t rs (or_parts _ _ e).1 nx in
    (λ h. (one.0 h.0, rest.0 h.1), λ h. (one.1 h.0, rest.1 h.1))

-- the leaving row
one_leaving : {A V : Type 0} (s : Space A V) → IsSpace s → (v : ℕ → V) (t : Pivot A) (r : Row A) → (r.basic == t.leaving) ≡ true → s.numbers.is_zero (coefficient_of s.numbers t.entering r.entries) ≡ false
    → t ≡ pivot_of s.numbers t.leaving t.entering r.entries → Holds s v (exchanged_row s.numbers t r) ↔ Holds s v r
one_leaving s l v t r e2 z w = by (r.basic == t.leaving) e2
  where
    by : (q : Bool) → q ≡ true → Holds s v (cond q (pivot_row s.numbers t) (substituted_row s.numbers t r)) ↔ Holds s v r
    by true e =
        let same : v r.basic ≡ v t.leaving = ap v (eqb_is r.basic t.leaving e2) in (
          λ h. record { is = same ∙ row_of_pivot s l v t.leaving t.entering r.entries z (subst (λ t. Holds s v (pivot_row s.numbers t)) w h) },
          λ h. subst (λ t. Holds s v (pivot_row s.numbers t)) (sym w) (pivot_row_holds s l v t.leaving t.entering r.entries z (sym same ∙ h.is)),
        )
    by false e = absurd (cc)

all_rows : {A V : Type 0} (s : Space A V) → IsSpace s → (v : ℕ → V) (t : Pivot A) (rs : List (Row A)) → AreDistinct rs → is_basic t.leaving rs ≡ true
    → s.numbers.is_zero (coefficient_of s.numbers t.entering (row_of t.leaving rs).entries) ≡ false → Holds s v (pivot_row s.numbers t) → t ≡ pivot_of s.numbers t.leaving t.entering (row_of t.leaving rs).entries
    → Solves s v (map (exchanged_row s.numbers t) rs) ↔ Solves s v rs
all_rows s l v t [] d e z nx w = cc
all_rows s l v t (r ∷ rs) d e z nx w = by (λ e z w. all_rows s l v t rs d.1 e z nx w) (r.basic == t.leaving) refl e z w
  where
    by : (is_basic t.leaving rs ≡ true → s.numbers.is_zero (coefficient_of s.numbers t.entering (row_of t.leaving rs).entries) ≡ false → t ≡ pivot_of s.numbers t.leaving t.entering (row_of t.leaving rs).entries → Solves s v (map (exchanged_row s.numbers t) rs) ↔ Solves s v rs)
        → (q : Bool) → (r.basic == t.leaving) ≡ q → (q || is_basic t.leaving rs) ≡ true → s.numbers.is_zero (coefficient_of s.numbers t.entering (cond q r (row_of t.leaving rs)).entries) ≡ false
        → t ≡ pivot_of s.numbers t.leaving t.entering (cond q r (row_of t.leaving rs)).entries
        → Solves s v (map (exchanged_row s.numbers t) (r ∷ rs)) ↔ Solves s v (r ∷ rs)
    by go true h e z w =
        let one = one_leaving s l v t r h z w in
        let rest = all_others s l v t rs (subst (λ y. is_basic y rs ≡ false) (eqb_is r.basic t.leaving h) d.0) nx in
        (λ k. (one.0 k.0, rest.0 k.1), λ k. (one.1 k.0, rest.1 k.1))
    by go false h e z w =
        let one = one_other s l v t r h nx in
        let rest = go e z w in
        (λ k. (one.0 k.0, rest.0 k.1), λ k. (one.1 k.0, rest.1 k.1))

pivot_row_among : {A V : Type 0} (s : Space A V) (v : ℕ → V) (t : Pivot A) (rs : List (Row A)) → is_basic t.leaving rs ≡ true
    → Solves s v (map (exchanged_row s.numbers t) rs) → Holds s v (pivot_row s.numbers t)
pivot_row_among s v t [] m h = cc
pivot_row_among s v t (r ∷ rs) m h = by (λ m. pivot_row_among s v t rs m h.1) (r.basic == t.leaving) m h.0
  where
    by : (is_basic t.leaving rs ≡ true → Holds s v (pivot_row s.numbers t)) → (q : Bool) → (q || is_basic t.leaving rs) ≡ true → Holds s v (cond q (pivot_row s.numbers t) (substituted_row s.numbers t r)) → Holds s v (pivot_row s.numbers t)
    by go true m g = g
    by go false m g = go m

-- the rows after an exchange have the same solutions
pub exchange_keeps : {A V : Type 0} (s : Space A V) → IsSpace s → (v : ℕ → V) (b x : ℕ) (rs : List (Row A)) → AreDistinct rs → is_basic b rs ≡ true
    → s.numbers.is_zero (coefficient_of s.numbers x (row_of b rs).entries) ≡ false → Solves s v (exchanged s.numbers b x rs) ↔ Solves s v rs
exchange_keeps s l v b x rs d e z =
    let t = pivot_of s.numbers b x (row_of b rs).entries in (
      λ h. (all_rows s l v t rs d e z (pivot_row_among s v t rs e h) refl).0 h,
      λ h. (all_rows s l v t rs d e z (pivot_row_holds s l v b x (row_of b rs).entries z (ap v (sym (row_of_basic b rs)) ∙ (row_holds s v b rs e h).is)) refl).1 h,
    )
