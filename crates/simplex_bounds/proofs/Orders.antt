-- The order of numbers with an infinitesimal part.
use Rattle.std.proofs.Common.{◌≡◌, Bool, true, false, ◌&&◌, ◌==◌, cond, refl, sym, ◌∙◌, ap}
use Rattle.std.specs.Ordering.{int_eq}
use Rattle.std.proofs.lemmas.Bool.Decides.{Decides-int_eq, Decides-eqb, Decides-and}
use Rattle.ratio128.specs.declared.ratio.Ratio.{Ratio}
use Rattle.spec_tableaux.specs.Spaces.{Pair, as_space}
use Rattle.spec_tableaux.specs.Numbers.{Number, numbers}
use Rattle.spec_tableaux.proofs.Numbers.{number_is, numbers_are_ordered_field, numbers_are_ordered}
use Rattle.spec_tableaux.proofs.OrderedSpaces.{pairs_are_ordered}
use Rattle.tableau.specs.Numbers.{number_of}
use Rattle.spec_tableaux.specs.Points.{deltas}

pub less_transitive : (x y z : Pair Number) → deltas.less x y ≡ true → deltas.less y z ≡ true → deltas.less x z ≡ true
less_transitive = (pairs_are_ordered numbers numbers_are_ordered_field).less_transitive

pub less_total : (x y : Pair Number) → deltas.less x y ≡ false → deltas.less y x ≡ false → x ≡ y
less_total = (pairs_are_ordered numbers numbers_are_ordered_field).less_total

-- the order of numbers
abbrev pub below : Number → Number → Bool
below = (as_space numbers).less

-- of one base the tilts decide
pub by_tilt : (x y : Pair Number) → x.base ≡ y.base → deltas.less x y ≡ below x.tilt y.tilt
by_tilt x y e =
    let first : below x.base y.base ≡ false = ap (λ b. below x.base b) (sym e) ∙ numbers_are_ordered.less_irreflexive x.base in
    let second : below y.base x.base ≡ false = ap (λ b. below b x.base) (sym e) ∙ numbers_are_ordered.less_irreflexive x.base in
    (λ i. cond (first i) true (cond (second i) false (below x.tilt y.tilt)))

-- of two bases they do
pub by_base : (x y : Pair Number) → (x.base ≡ y.base → ⊥) → deltas.less x y ≡ below x.base y.base
by_base x y n = by (below x.base y.base) (below y.base x.base) refl refl
  where
    by : (p q : Bool) → below x.base y.base ≡ p → below y.base x.base ≡ q → cond p true (cond q false (below x.tilt y.tilt)) ≡ p
    by true q e f = refl
    by false true e f = refl
    by false false e f = absurd (n (numbers_are_ordered.less_total x.base y.base e f))

-- fractions of the same parts are one number, and others are two
pub same_parts : (a b : Ratio) → (int_eq a.num b.num && (a.den == b.den)) ≡ true → number_of a ≡ number_of b
same_parts a b h =
    let p = (Decides-and (int_eq a.num b.num) (a.den == b.den) (Decides-int_eq a.num b.num) (Decides-eqb a.den b.den)).0 h in
    number_is (number_of a) (number_of b) (λ i. record { num = p.0 i; den = p.1 i })

pub other_parts : (a b : Ratio) → (int_eq a.num b.num && (a.den == b.den)) ≡ false → number_of a ≡ number_of b → ⊥
other_parts a b h e =
    let same = (Decides-and (int_eq a.num b.num) (a.den == b.den) (Decides-int_eq a.num b.num) (Decides-eqb a.den b.den)).1
    (ap (λ (n : Number). n.fraction.num) e, ap (λ (n : Number). n.fraction.den) e) in
    cc
