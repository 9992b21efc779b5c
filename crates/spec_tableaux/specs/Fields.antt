-- Ordered fields.
use Rattle.std.specs.Prelude.{◌≡◌, Bool, true, false}

-- what is computed with numbers
pub record Field (A : Type 0) : Type 0 where
  pub zero : A
  pub one : A
  pub plus : A → A → A
  pub times : A → A → A
  -- minus a number
  pub opposite : A → A
  -- one over a number that is not 0
  pub inverse : A → A
  pub is_zero : A → Bool
  -- a number is below 0
  pub is_negative : A → Bool

-- a number is above 0
abbrev pub is_positive : {A : Type 0} → Field A → A → Bool
is_positive f a = f.is_negative (f.opposite a)

-- The laws of an ordered field, its order given by the numbers below 0.
pub record IsOrderedField {A : Type 0} (f : Field A) : Type 0 where
  pub sum_associative : (a b c : A) → f.plus (f.plus a b) c ≡ f.plus a (f.plus b c)
  pub sum_commutative : (a b : A) → f.plus a b ≡ f.plus b a
  pub sum_zero : (a : A) → f.plus f.zero a ≡ a
  pub sum_opposite : (a : A) → f.plus (f.opposite a) a ≡ f.zero
  pub product_associative : (a b c : A) → f.times (f.times a b) c ≡ f.times a (f.times b c)
  pub product_commutative : (a b : A) → f.times a b ≡ f.times b a
  pub product_one : (a : A) → f.times f.one a ≡ a
  pub product_inverse : (a : A) → f.is_zero a ≡ false → f.times (f.inverse a) a ≡ f.one
  pub distributive : (a b c : A) → f.times a (f.plus b c) ≡ f.plus (f.times a b) (f.times a c)
  pub zero_test : (a : A) → f.is_zero a ≡ true → a ≡ f.zero
  pub zero_is_zero : f.is_zero f.zero ≡ true
  pub one_is_not_zero : f.is_zero f.one ≡ false
  pub zero_is_not_negative : f.is_negative f.zero ≡ false
  pub negative_sum : (a b : A) → f.is_negative a ≡ true → f.is_negative b ≡ true → f.is_negative (f.plus a b) ≡ true
  pub no_sign : (a : A) → f.is_negative a ≡ false → f.is_negative (f.opposite a) ≡ false → a ≡ f.zero
  pub one_sign : (a : A) → f.is_negative a ≡ true → f.is_negative (f.opposite a) ≡ false
  pub negative_product : (k a : A) → f.is_negative (f.opposite k) ≡ true → f.is_negative a ≡ true
      → f.is_negative (f.times k a) ≡ true
