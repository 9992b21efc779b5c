-- What sums of entries are.
use Rattle.std.proofs.Common.{◌≡◌, ℕ, Bool, true, false, List, [], ◌∷◌, refl, sym, ◌∙◌, ap, arith, cond, ◌==◌}
use Rattle.std.proofs.lemmas.Bool.Decides.{nat_tests}
use Rattle.std.specs.Prelude.{nat_lt}
use Rattle.spec_tableaux.specs.Spaces.{Space, IsSpace}
use Rattle.spec_tableaux.specs.Rows.{with_entry, Entry, sum_of, put, minus_times, negated, quotients, without, coefficient_of}
use Rattle.spec_tableaux.proofs.Groups.{inner_two, first_two, negated_product}
use Rattle.spec_tableaux.proofs.Signs.{opposite_is}

-- exchange of the inner two of four
pub four : {A V : Type 0} (s : Space A V) → IsSpace s → (a b c d : V) → s.plus (s.plus a b) (s.plus c d) ≡ s.plus (s.plus a c) (s.plus b d)
four s l a b c d = inner_two s.plus l.plus_associative l.plus_commutative a b c d

pub three : {A V : Type 0} (s : Space A V) → IsSpace s → (a b c : V) → s.plus a (s.plus b c) ≡ s.plus b (s.plus a c)
three s l a b c = first_two s.plus l.plus_associative l.plus_commutative a b c

pub plus_origin_right : {A V : Type 0} (s : Space A V) → IsSpace s → (a : V) → s.plus a s.origin ≡ a
plus_origin_right s l a = l.plus_commutative a s.origin ∙ l.plus_origin a

pub sum_with_entry : {A V : Type 0} (s : Space A V) → IsSpace s → (v : ℕ → V) (x : ℕ) (c : A) (es : List (Entry A))
    → sum_of s v (with_entry s.numbers x c es) ≡ s.plus (s.scale c (v x)) (sum_of s v es)
sum_with_entry s l v x c es = by (s.numbers.is_zero c) refl
  where
    by : (b : Bool) → s.numbers.is_zero c ≡ b → sum_of s v (cond b es (record { variable = x; coefficient = c } ∷ es)) ≡ s.plus (s.scale c (v x)) (sum_of s v es)
    by true h = sym (ap (λ t. s.plus (s.scale t (v x)) (sum_of s v es)) (l.numbers.zero_test c h) ∙ ap (λ t. s.plus t (sum_of s v es)) (l.zero_scale (v x)) ∙ l.plus_origin (sum_of s v es))
    by false h = refl

put_at : {A V : Type 0} (s : Space A V) → IsSpace s → (v : ℕ → V) (c k : A) (x y : ℕ) (F : V) → x ≡ y
    → s.plus (s.scale (s.numbers.plus k c) (v x)) F ≡ s.plus (s.scale c (v x)) (s.plus (s.scale k (v y)) F)
put_at s l v c k x y F e = ap (λ t. s.plus t F) (l.sum_scale k c (v x)) ∙ l.plus_associative _ _ F ∙ three s l _ _ F ∙ ap (λ t. s.plus (s.scale c (v x)) (s.plus (s.scale k (v t)) F)) e

pub sum_put : {A V : Type 0} (s : Space A V) → IsSpace s → (v : ℕ → V) (x : ℕ) (c : A) (es : List (Entry A))
    → sum_of s v (put s.numbers x c es) ≡ s.plus (s.scale c (v x)) (sum_of s v es)
sum_put s l v x c [] = sum_with_entry s l v x c []
sum_put s l v x c (e ∷ es) = by (sum_put s l v x c es) (nat_lt x e.variable) (x == e.variable) refl
  where
    by : sum_of s v (put s.numbers x c es) ≡ s.plus (s.scale c (v x)) (sum_of s v es) → (p q : Bool) → (x == e.variable) ≡ q
        → sum_of s v (cond p (with_entry s.numbers x c (e ∷ es)) (cond q (with_entry s.numbers x (s.numbers.plus e.coefficient c) es) (e ∷ put s.numbers x c es))) ≡ s.plus (s.scale c (v x)) (s.plus (s.scale e.coefficient (v e.variable)) (sum_of s v es))
    by r true q h = sum_with_entry s l v x c (e ∷ es)
    by r false true h = sum_with_entry s l v x (s.numbers.plus e.coefficient c) es ∙ put_at s l v c e.coefficient x e.variable (sum_of s v es) (grind (arith, nat_tests))
    by r false false h = ap (s.plus (s.scale e.coefficient (v e.variable))) r ∙ three s l _ _ _

-- minus k times what is scaled
pub opposite_scale : {A V : Type 0} (s : Space A V) → IsSpace s → (k : A) (x : V) → s.scale (s.numbers.opposite k) x ≡ s.scale (s.numbers.opposite s.numbers.one) (s.scale k x)
opposite_scale s l k x = ap (λ t. s.scale t x) ((opposite_is s.numbers l.numbers) k) ∙ l.product_scale (s.numbers.opposite s.numbers.one) k x

pub sum_minus : {A V : Type 0} (s : Space A V) → IsSpace s → (v : ℕ → V) (k : A) (es fs : List (Entry A))
    → sum_of s v (minus_times s.numbers es k fs) ≡ s.plus (sum_of s v es) (s.scale (s.numbers.opposite k) (sum_of s v fs))
sum_minus s l v k es [] = sym (ap (s.plus (sum_of s v es)) (l.scale_origin (s.numbers.opposite k)) ∙ plus_origin_right s l _)
sum_minus s l v k es (f ∷ fs) = sum_put s l v f.variable (s.numbers.opposite (s.numbers.times k f.coefficient)) (minus_times s.numbers es k fs) ∙ ap (s.plus (s.scale (s.numbers.opposite (s.numbers.times k f.coefficient)) (v f.variable))) (sum_minus s l v k es fs)
    ∙ three s l _ _ _ ∙ ap (s.plus (sum_of s v es)) (ap (λ t. s.plus t (s.scale (s.numbers.opposite k) (sum_of s v fs))) (ap (λ t. s.scale t (v f.variable)) (moved k f.coefficient) ∙ l.product_scale (s.numbers.opposite k) f.coefficient (v f.variable)) ∙ sym (l.scale_plus (s.numbers.opposite k) _ _))
  where
    moved : (k b : _) → s.numbers.opposite (s.numbers.times k b) ≡ s.numbers.times (s.numbers.opposite k) b
    moved k b = ap s.numbers.opposite (l.numbers.product_commutative k b) ∙ negated_product s.numbers.times s.numbers.opposite s.numbers.one l.numbers.product_associative l.numbers.product_commutative (opposite_is s.numbers l.numbers) b k

pub sum_quotients : {A V : Type 0} (s : Space A V) → IsSpace s → (v : ℕ → V) (d : A) (es : List (Entry A))
    → sum_of s v (quotients s.numbers d es) ≡ s.scale (s.numbers.inverse d) (sum_of s v es)
sum_quotients s l v d [] = sym (l.scale_origin _)
sum_quotients s l v d (e ∷ es) =
    (λ i. s.plus (s.scale (l.numbers.product_commutative e.coefficient (s.numbers.inverse d) i) (v e.variable)) (sum_quotients s l v d es i)) ∙ ap (λ t. s.plus t (s.scale (s.numbers.inverse d) (sum_of s v es))) (l.product_scale (s.numbers.inverse d) e.coefficient (v e.variable)) ∙ sym (l.scale_plus (s.numbers.inverse d) _ _)

pub sum_negated : {A V : Type 0} (s : Space A V) → IsSpace s → (v : ℕ → V) (es : List (Entry A)) → sum_of s v (negated s.numbers es) ≡ s.scale (s.numbers.opposite s.numbers.one) (sum_of s v es)
sum_negated s l v [] = sym (l.scale_origin _)
sum_negated s l v (e ∷ es) = (λ i. s.plus (opposite_scale s l e.coefficient (v e.variable) i) (sum_negated s l v es i)) ∙ sym (l.scale_plus (s.numbers.opposite s.numbers.one) _ _)

pub sum_without : {A V : Type 0} (s : Space A V) → IsSpace s → (v : ℕ → V) (x : ℕ) (es : List (Entry A))
    → s.plus (s.scale (coefficient_of s.numbers x es) (v x)) (sum_of s v (without x es)) ≡ sum_of s v es
sum_without s l v x [] = ap (λ t. s.plus t s.origin) (l.zero_scale (v x)) ∙ l.plus_origin s.origin
sum_without s l v x (e ∷ es) = by (sum_without s l v x es) (e.variable == x) refl
  where
    by : s.plus (s.scale (coefficient_of s.numbers x es) (v x)) (sum_of s v (without x es)) ≡ sum_of s v es → (q : Bool) → (e.variable == x) ≡ q
        → s.plus (s.scale (cond q e.coefficient (coefficient_of s.numbers x es)) (v x)) (sum_of s v (cond q es (e ∷ without x es))) ≡ s.plus (s.scale e.coefficient (v e.variable)) (sum_of s v es)
    by r true h = let e1 : x ≡ e.variable = grind (arith, nat_tests) in ap (λ t. s.plus (s.scale e.coefficient (v t)) (sum_of s v es)) e1
    by r false h = three s l _ _ _ ∙ ap (s.plus (s.scale e.coefficient (v e.variable))) r
