-- Signs and differences in an ordered field.
use Rattle.std.proofs.Common.{◌≡◌, Bool, true, false, refl, sym, ◌∙◌, ap}
use Rattle.spec_tableaux.specs.Fields.{Field, IsOrderedField}
use Rattle.spec_tableaux.proofs.Groups.{inner_two}

pub sum_zero_right : {A : Type 0} (f : Field A) → IsOrderedField f → (a : A) → f.plus a f.zero ≡ a
sum_zero_right f l a = l.sum_commutative a f.zero ∙ l.sum_zero a

pub zero_product : {A : Type 0} (f : Field A) → IsOrderedField f → (a : A) → f.times f.zero a ≡ f.zero
zero_product f l a = unique (f.times f.zero a) (sym (ap (λ z. f.times z a) (l.sum_zero f.zero)) ∙ l.product_commutative _ a ∙ l.distributive a f.zero f.zero ∙ (λ i. f.plus (l.product_commutative a f.zero i) (l.product_commutative a f.zero i)))
  where
    unique : (x : _) → x ≡ f.plus x x → x ≡ f.zero
    unique x h = sym (l.sum_zero x) ∙ ap (λ z. f.plus z x) (sym (l.sum_opposite x)) ∙ l.sum_associative (f.opposite x) x x ∙ ap (f.plus (f.opposite x)) (sym h) ∙ l.sum_opposite x

-- what added to a is 0 is minus a
pub opposite_unique : {A : Type 0} (f : Field A) → IsOrderedField f → (a b : A) → f.plus b a ≡ f.zero → b ≡ f.opposite a
opposite_unique f l a b h = sym (sum_zero_right f l b) ∙ ap (f.plus b) (sym (l.sum_opposite a) ∙ l.sum_commutative (f.opposite a) a) ∙ sym (l.sum_associative b a (f.opposite a)) ∙ ap (λ z. f.plus z (f.opposite a)) h ∙ l.sum_zero (f.opposite a)

pub opposite_twice : {A : Type 0} (f : Field A) → IsOrderedField f → (a : A) → f.opposite (f.opposite a) ≡ a
opposite_twice f l a = sym (opposite_unique f l (f.opposite a) a (l.sum_commutative a (f.opposite a) ∙ l.sum_opposite a))

pub opposite_product : {A : Type 0} (f : Field A) → IsOrderedField f → (a b : A) → f.times (f.opposite a) b ≡ f.opposite (f.times a b)
opposite_product f l a b = opposite_unique f l (f.times a b) (f.times (f.opposite a) b) ((λ i. f.plus (l.product_commutative (f.opposite a) b i) (l.product_commutative a b i)) ∙ sym (l.distributive b (f.opposite a) a) ∙ ap (f.times b) (l.sum_opposite a) ∙ l.product_commutative b f.zero ∙ zero_product f l b)

pub opposite_is : {A : Type 0} (f : Field A) → IsOrderedField f → (a : A) → f.opposite a ≡ f.times (f.opposite f.one) a
opposite_is f l a = sym (opposite_product f l f.one a ∙ ap f.opposite (l.product_one a))

pub opposite_sum : {A : Type 0} (f : Field A) → IsOrderedField f → (a b : A) → f.opposite (f.plus a b) ≡ f.plus (f.opposite a) (f.opposite b)
opposite_sum f l a b = opposite_is f l (f.plus a b) ∙ l.distributive (f.opposite f.one) a b ∙ (λ i. f.plus (sym (opposite_is f l a) i) (sym (opposite_is f l b) i))

pub opposite_zero : {A : Type 0} (f : Field A) → IsOrderedField f → f.opposite f.zero ≡ f.zero
opposite_zero f l = sym (opposite_unique f l f.zero f.zero (l.sum_zero f.zero))

pub difference_self : {A : Type 0} (f : Field A) → IsOrderedField f → (x : A) → f.plus x (f.opposite x) ≡ f.zero
difference_self f l x = l.sum_commutative x (f.opposite x) ∙ l.sum_opposite x

pub difference_chain : {A : Type 0} (f : Field A) → IsOrderedField f → (x y z : A) → f.plus (f.plus x (f.opposite y)) (f.plus y (f.opposite z)) ≡ f.plus x (f.opposite z)
difference_chain f l x y z = l.sum_associative x (f.opposite y) _ ∙ ap (f.plus x) (sym (l.sum_associative (f.opposite y) y (f.opposite z)) ∙ ap (λ t. f.plus t (f.opposite z)) (l.sum_opposite y) ∙ l.sum_zero (f.opposite z))

pub difference_opposite : {A : Type 0} (f : Field A) → IsOrderedField f → (x y : A) → f.opposite (f.plus x (f.opposite y)) ≡ f.plus y (f.opposite x)
difference_opposite f l x y = opposite_sum f l x (f.opposite y) ∙ ap (f.plus (f.opposite x)) (opposite_twice f l y) ∙ l.sum_commutative (f.opposite x) y

pub difference_zero : {A : Type 0} (f : Field A) → IsOrderedField f → (x y : A) → f.plus x (f.opposite y) ≡ f.zero → x ≡ y
difference_zero f l x y h = opposite_unique f l (f.opposite y) x h ∙ opposite_twice f l y

pub difference_plus : {A : Type 0} (f : Field A) → IsOrderedField f → (z x y : A) → f.plus (f.plus z x) (f.opposite (f.plus z y)) ≡ f.plus x (f.opposite y)
difference_plus f l z x y = ap (f.plus (f.plus z x)) (opposite_sum f l z y) ∙ inner_two f.plus l.sum_associative l.sum_commutative z x (f.opposite z) (f.opposite y) ∙ ap (λ t. f.plus t (f.plus x (f.opposite y))) (difference_self f l z) ∙ l.sum_zero _

pub difference_scale : {A : Type 0} (f : Field A) → IsOrderedField f → (k x y : A) → f.plus (f.times k x) (f.opposite (f.times k y)) ≡ f.times k (f.plus x (f.opposite y))
difference_scale f l k x y = ap (f.plus (f.times k x)) (ap f.opposite (l.product_commutative k y) ∙ sym (opposite_product f l y k) ∙ l.product_commutative (f.opposite y) k) ∙ sym (l.distributive k x (f.opposite y))

-- a number above 0 keeps signs
pub product_sign : {A : Type 0} (f : Field A) → IsOrderedField f → (k d : A) → f.is_negative (f.opposite k) ≡ true → f.is_negative (f.times k d) ≡ f.is_negative d
product_sign f l k d p = by (f.is_negative d) refl (f.is_negative (f.opposite d)) refl
  where
    by : (a : Bool) → f.is_negative d ≡ a → (b : Bool) → f.is_negative (f.opposite d) ≡ b → f.is_negative (f.times k d) ≡ a
    by true e b g = l.negative_product k d p e
    by false e true g = ap f.is_negative (sym (opposite_twice f l (f.times k d)) ∙ ap f.opposite (sym (l.product_commutative k (f.opposite d) ∙ opposite_product f l d k ∙ ap f.opposite (l.product_commutative d k)))) ∙ l.one_sign (f.times k (f.opposite d)) (l.negative_product k (f.opposite d) p g)
    by false e false g = ap f.is_negative (ap (f.times k) (l.no_sign d e g) ∙ l.product_commutative k f.zero ∙ zero_product f l k) ∙ l.zero_is_not_negative

not_zero : {A : Type 0} (f : Field A) → IsOrderedField f → (a : A) → (a ≡ f.zero → ⊥) → f.is_zero a ≡ false
not_zero f l a h = by (f.is_zero a) refl
  where
    by : (q : Bool) → f.is_zero a ≡ q → q ≡ false
    by true e = absurd (h (l.zero_test a e))
    by false e = refl

pub is_not : {A : Type 0} (f : Field A) → IsOrderedField f → (a : A) → f.is_zero a ≡ false → a ≡ f.zero → ⊥
is_not f l a z e = let k : f.is_zero a ≡ true = ap f.is_zero e ∙ l.zero_is_zero in cc

pub product_not_zero : {A : Type 0} (f : Field A) → IsOrderedField f → (a b : A) → f.is_zero a ≡ false → f.is_zero b ≡ false → f.is_zero (f.times a b) ≡ false
product_not_zero f l a b p q = not_zero f l (f.times a b) (λ h. is_not f l b q
    (sym (l.product_one b) ∙ ap (λ z. f.times z b) (sym (l.product_inverse a p)) ∙ l.product_associative (f.inverse a) a b ∙ ap (f.times (f.inverse a)) h ∙ l.product_commutative (f.inverse a) f.zero ∙ zero_product f l (f.inverse a)))

pub opposite_not_zero : {A : Type 0} (f : Field A) → IsOrderedField f → (a : A) → f.is_zero a ≡ false → f.is_zero (f.opposite a) ≡ false
opposite_not_zero f l a p = not_zero f l (f.opposite a) (λ h. is_not f l a p (sym (opposite_twice f l a) ∙ ap f.opposite h ∙ opposite_zero f l))

pub inverse_not_zero : {A : Type 0} (f : Field A) → IsOrderedField f → (a : A) → f.is_zero a ≡ false → f.is_zero (f.inverse a) ≡ false
inverse_not_zero f l a p = not_zero f l (f.inverse a) (λ h. is_not f l f.one l.one_is_not_zero (sym (l.product_inverse a p) ∙ ap (λ z. f.times z a) h ∙ zero_product f l a))
