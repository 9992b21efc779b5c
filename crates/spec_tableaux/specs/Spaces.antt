-- Values that numbers scale: the numbers themselves, or numbers with an infinitesimal part.
use Rattle.std.specs.Prelude.{◌≡◌, Bool, true, false, cond}
use Rattle.spec_tableaux.specs.Fields.{Field, IsOrderedField, is_positive}

-- what is computed with values V that numbers A scale
pub record Space (A V : Type 0) : Type 0 where
  pub numbers : Field A
  -- the value that adds nothing
  pub origin : V
  pub plus : V → V → V
  pub scale : A → V → V
  pub less : V → V → Bool

-- The laws of sums and multiples of values over an ordered field.
pub record IsSpace {A V : Type 0} (s : Space A V) : Type 0 where
  pub numbers : IsOrderedField s.numbers
  pub plus_associative : (x y z : V) → s.plus (s.plus x y) z ≡ s.plus x (s.plus y z)
  pub plus_commutative : (x y : V) → s.plus x y ≡ s.plus y x
  pub plus_origin : (x : V) → s.plus s.origin x ≡ x
  pub scale_plus : (k : A) (x y : V) → s.scale k (s.plus x y) ≡ s.plus (s.scale k x) (s.scale k y)
  pub scale_origin : (k : A) → s.scale k s.origin ≡ s.origin
  pub sum_scale : (k l : A) (x : V) → s.scale (s.numbers.plus k l) x ≡ s.plus (s.scale k x) (s.scale l x)
  pub product_scale : (k l : A) (x : V) → s.scale (s.numbers.times k l) x ≡ s.scale k (s.scale l x)
  pub one_scale : (x : V) → s.scale s.numbers.one x ≡ x
  pub zero_scale : (x : V) → s.scale s.numbers.zero x ≡ s.origin

-- The laws of a total order of values that fits sums and multiples.
pub record IsOrdered {A V : Type 0} (s : Space A V) : Type 0 where
  pub less_irreflexive : (x : V) → s.less x x ≡ false
  pub less_transitive : (x y z : V) → s.less x y ≡ true → s.less y z ≡ true → s.less x z ≡ true
  pub less_total : (x y : V) → s.less x y ≡ false → s.less y x ≡ false → x ≡ y
  pub less_plus : (z x y : V) → s.less (s.plus z x) (s.plus z y) ≡ s.less x y
  pub less_scale : (k : A) (x y : V) → s.numbers.is_zero k ≡ false
      → s.less (s.scale k x) (s.scale k y) ≡ cond (is_positive s.numbers k) (s.less x y) (s.less y x)

-- x space_difference y
abbrev pub space_difference : {A V : Type 0} → Space A V → V → V → V
space_difference s x y = s.plus x (s.scale (s.numbers.opposite s.numbers.one) y)

-- A value that tells numbers apart: its multiples by different numbers differ.
pub record TellsApart {A V : Type 0} (s : Space A V) (u : V) : Type 0 where
  pub same : (a b : A) → s.scale a u ≡ s.scale b u → a ≡ b

-- a field as a space over itself
abbrev pub as_space : {A : Type 0} → Field A → Space A A
as_space f = record {
  numbers = f;
  origin = f.zero;
  plus = f.plus;
  scale = f.times;
  less = λ x y. f.is_negative (f.plus x (f.opposite y));
}

-- A number and a multiple of an infinitesimal, which is above 0 and below each number above 0.
-- Source: Dutertre and de Moura, CAV 2006.
pub record Pair (A : Type 0) : Type 0 where
  pub base : A
  pub tilt : A

-- pairs in the order of their bases, and where these are one, of their tilts
abbrev pub pair_less : {A : Type 0} → (A → A → Bool) → Pair A → Pair A → Bool
pair_less less x y = cond (less x.base y.base) true (cond (less y.base x.base) false (less x.tilt y.tilt))

-- the pairs as a space over the field
abbrev pub pairs : {A : Type 0} → Field A → Space A (Pair A)
pairs f = record {
  numbers = f;
  origin = record { base = f.zero; tilt = f.zero };
  plus = λ x y. record { base = f.plus x.base y.base; tilt = f.plus x.tilt y.tilt };
  scale = λ k x. record { base = f.times k x.base; tilt = f.times k x.tilt };
  less = pair_less (λ x y. f.is_negative (f.plus x (f.opposite y)));
}
