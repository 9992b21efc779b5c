-- The field and its pairs are ordered spaces.
use Rattle.std.proofs.Common.{◌≡◌, Bool, true, false, refl, sym, ◌∙◌, ap, cond}
use Rattle.spec_tableaux.specs.Fields.{Field, IsOrderedField}
use Rattle.spec_tableaux.specs.Spaces.{IsOrdered, IsSpace, as_space, TellsApart, pairs, Pair, pair_less}
use Rattle.spec_tableaux.proofs.Signs.{zero_product, is_not, opposite_product, opposite_twice, product_sign, difference_scale, difference_opposite, difference_self, difference_chain, difference_zero, difference_plus}

-- a field is a space over itself
pub field_is_space : {A : Type 0} (f : Field A) → IsOrderedField f → IsSpace (as_space f)
field_is_space f l = record {
  numbers = l;
  plus_associative = l.sum_associative;
  plus_commutative = l.sum_commutative;
  plus_origin = l.sum_zero;
  scale_plus = l.distributive;
  scale_origin = λ k. l.product_commutative k f.zero ∙ zero_product f l k;
  sum_scale = λ k m x. l.product_commutative (f.plus k m) x ∙ l.distributive x k m ∙ (λ i. f.plus (l.product_commutative x k i) (l.product_commutative x m i));
  product_scale = l.product_associative;
  one_scale = l.product_one;
  zero_scale = zero_product f l;
}

-- one tells numbers apart
pub one_tells_apart : {A : Type 0} (f : Field A) → IsOrderedField f → TellsApart (as_space f) f.one
one_tells_apart f l = record { same = λ a b e. sym (times_one a) ∙ e ∙ times_one b }
  where
    times_one : (a : _) → f.times a f.one ≡ a
    times_one a = l.product_commutative a f.one ∙ l.product_one a

-- so does the pair of one and nothing
pub pair_tells_apart : {A : Type 0} (f : Field A) → IsOrderedField f → TellsApart (pairs f) (record { base = f.one; tilt = f.zero })
pair_tells_apart f l = record { same = λ a b e. (one_tells_apart f l).same a b (ap (λ (p : Pair _). p.base) e) }

-- k that is neither 0 nor above it is below
negative_of : {A : Type 0} (f : Field A) → IsOrderedField f → (k : A) → f.is_zero k ≡ false → f.is_negative (f.opposite k) ≡ false → f.is_negative k ≡ true
negative_of f l k z p = by (f.is_negative k) refl
  where
    by : (q : Bool) → f.is_negative k ≡ q → q ≡ true
    by true e = refl
    by false e = absurd (is_not f l k z (l.no_sign k e p))

negative_scale : {A : Type 0} (f : Field A) → IsOrderedField f → (k d : A) → f.is_negative k ≡ true → f.is_negative (f.times k d) ≡ f.is_negative (f.opposite d)
negative_scale f l k d h =
    ap f.is_negative (sym (ap (λ z. f.times z (f.opposite d)) refl ∙ opposite_product f l k (f.opposite d) ∙ ap f.opposite (l.product_commutative k (f.opposite d) ∙ opposite_product f l d k ∙ ap f.opposite (l.product_commutative d k)) ∙ opposite_twice f l (f.times k d)))
    ∙ product_sign f l (f.opposite k) (f.opposite d) (ap f.is_negative (opposite_twice f l k) ∙ h)

less_scale_of : {A : Type 0} (f : Field A) → IsOrderedField f → (k x y : A) → f.is_zero k ≡ false
    → f.is_negative (f.plus (f.times k x) (f.opposite (f.times k y))) ≡ cond (f.is_negative (f.opposite k)) (f.is_negative (f.plus x (f.opposite y))) (f.is_negative (f.plus y (f.opposite x)))
less_scale_of f l k x y z = ap f.is_negative (difference_scale f l k x y) ∙ by (f.is_negative (f.opposite k)) refl
  where
    by : (q : Bool) → f.is_negative (f.opposite k) ≡ q → f.is_negative (f.times k (f.plus x (f.opposite y))) ≡ cond q (f.is_negative (f.plus x (f.opposite y))) (f.is_negative (f.plus y (f.opposite x)))
    by true e = product_sign f l k _ e
    by false e = negative_scale f l k _ (negative_of f l k z e) ∙ ap f.is_negative (difference_opposite f l x y)

pub field_is_ordered : {A : Type 0} (f : Field A) → IsOrderedField f → IsOrdered (as_space f)
field_is_ordered f l = record {
  less_irreflexive = λ x. ap f.is_negative (difference_self f l x) ∙ l.zero_is_not_negative;
  less_transitive = λ x y z h k. ap f.is_negative (sym (difference_chain f l x y z)) ∙ l.negative_sum _ _ h k;
  less_total = λ x y h k. difference_zero f l x y (l.no_sign _ h (ap f.is_negative (difference_opposite f l x y) ∙ k));
  less_plus = λ z x y. ap f.is_negative (difference_plus f l z x y);
  less_scale = less_scale_of f l;
}

-- the pairs over a field are a space
pub pairs_are_space : {A : Type 0} (f : Field A) → IsOrderedField f → IsSpace (pairs f)
pairs_are_space f l = let s = field_is_space f l in record {
  numbers = l;
  plus_associative = λ x y z. λ i. record { base = s.plus_associative x.base y.base z.base i; tilt = s.plus_associative x.tilt y.tilt z.tilt i };
  plus_commutative = λ x y. λ i. record { base = s.plus_commutative x.base y.base i; tilt = s.plus_commutative x.tilt y.tilt i };
  plus_origin = λ x. λ i. record { base = s.plus_origin x.base i; tilt = s.plus_origin x.tilt i };
  scale_plus = λ k x y. λ i. record { base = s.scale_plus k x.base y.base i; tilt = s.scale_plus k x.tilt y.tilt i };
  scale_origin = λ k. λ i. record { base = s.scale_origin k i; tilt = s.scale_origin k i };
  sum_scale = λ k m x. λ i. record { base = s.sum_scale k m x.base i; tilt = s.sum_scale k m x.tilt i };
  product_scale = λ k m x. λ i. record { base = s.product_scale k m x.base i; tilt = s.product_scale k m x.tilt i };
  one_scale = λ x. λ i. record { base = s.one_scale x.base i; tilt = s.one_scale x.tilt i };
  zero_scale = λ x. λ i. record { base = s.zero_scale x.base i; tilt = s.zero_scale x.tilt i };
}

-- one pair below another
data Lower {A : Type 0} (f : Field A) (x y : Pair A) : Type 0 where
  by_base : (as_space f).less x.base y.base ≡ true → Lower f x y
  by_tilt : x.base ≡ y.base → (as_space f).less x.tilt y.tilt ≡ true → Lower f x y

lower_of : {A : Type 0} (f : Field A) → IsOrderedField f → (x y : Pair A) → pair_less (as_space f).less x y ≡ true → Lower f x y
lower_of f l x y h = by ((as_space f).less x.base y.base) refl ((as_space f).less y.base x.base) refl h
  where
    by : (p : Bool) → (as_space f).less x.base y.base ≡ p → (q : Bool) → (as_space f).less y.base x.base ≡ q → cond p true (cond q false ((as_space f).less x.tilt y.tilt)) ≡ true → Lower f x y
    by true e q g h = by_base e
    by false e true g h = absurd (cc)
    by false e false g h = by_tilt ((field_is_ordered f l).less_total x.base y.base e g) h

of_lower : {A : Type 0} (f : Field A) → IsOrderedField f → (x y : Pair A) → Lower f x y → pair_less (as_space f).less x y ≡ true
of_lower f l x y (by_base e) = ap (λ p. cond p true (cond ((as_space f).less y.base x.base) false ((as_space f).less x.tilt y.tilt))) e
of_lower f l x y (by_tilt e h) =
    let p : (as_space f).less x.base y.base ≡ false = ap (λ z. (as_space f).less z y.base) e ∙ (field_is_ordered f l).less_irreflexive y.base in
    let q : (as_space f).less y.base x.base ≡ false = ap (λ z. (as_space f).less y.base z) e ∙ (field_is_ordered f l).less_irreflexive y.base in
    (λ i. cond (p i) true (cond (q i) false (h i)))

lower_trans : {A : Type 0} (f : Field A) → IsOrderedField f → (x y z : Pair A) → Lower f x y → Lower f y z → Lower f x z
lower_trans f l x y z (by_base e) (by_base g) = by_base ((field_is_ordered f l).less_transitive x.base y.base z.base e g)
lower_trans f l x y z (by_base e) (by_tilt g k) = by_base (ap ((as_space f).less x.base) (sym g) ∙ e)
lower_trans f l x y z (by_tilt e h) (by_base g) = by_base (ap (λ t. (as_space f).less t z.base) e ∙ g)
lower_trans f l x y z (by_tilt e h) (by_tilt g k) = by_tilt (e ∙ g) ((field_is_ordered f l).less_transitive x.tilt y.tilt z.tilt h k)

equal_pairs : {A : Type 0} (f : Field A) → IsOrderedField f → (x y : Pair A) → pair_less (as_space f).less x y ≡ false → pair_less (as_space f).less y x ≡ false → x ≡ y
equal_pairs f l x y h k = by ((as_space f).less x.base y.base) refl ((as_space f).less y.base x.base) refl h k
  where
    by : (p : Bool) → (as_space f).less x.base y.base ≡ p → (q : Bool) → (as_space f).less y.base x.base ≡ q
        → cond p true (cond q false ((as_space f).less x.tilt y.tilt)) ≡ false → cond q true (cond p false ((as_space f).less y.tilt x.tilt)) ≡ false → x ≡ y
    by true e q g h k = absurd (cc)
    by false e true g h k = absurd (cc)
    by false e false g h k = λ i. record { base = (field_is_ordered f l).less_total x.base y.base e g i; tilt = (field_is_ordered f l).less_total x.tilt y.tilt h k i }

pub pairs_are_ordered : {A : Type 0} (f : Field A) → IsOrderedField f → IsOrdered (pairs f)
pairs_are_ordered {A = B} f l = let o = field_is_ordered f l in record {
  less_irreflexive = λ x. λ i. cond (o.less_irreflexive x.base i) true (cond (o.less_irreflexive x.base i) false (o.less_irreflexive x.tilt i));
  less_transitive = λ x y z h k. of_lower f l x z (lower_trans f l x y z (lower_of f l x y h) (lower_of f l y z k));
  less_total = equal_pairs f l;
  less_plus = λ z x y. λ i. cond (o.less_plus z.base x.base y.base i) true (cond (o.less_plus z.base y.base x.base i) false (o.less_plus z.tilt x.tilt y.tilt i));
  less_scale = λ k x y z. (λ i. cond (o.less_scale k x.base y.base z i) true (cond (o.less_scale k y.base x.base z i) false (o.less_scale k x.tilt y.tilt z i))) ∙ by k x y (f.is_negative (f.opposite k));
}
  where
    by : (k : B) (x y : Pair B) (p : Bool) → cond (cond p ((as_space f).less x.base y.base) ((as_space f).less y.base x.base)) true (cond (cond p ((as_space f).less y.base x.base) ((as_space f).less x.base y.base)) false (cond p ((as_space f).less x.tilt y.tilt) ((as_space f).less y.tilt x.tilt)))
        ≡ cond p (pair_less (as_space f).less x y) (pair_less (as_space f).less y x)
    by k x y true = refl
    by k x y false = refl
