-- Comparisons of numbers.
use Rattle.std.proofs.Common.{◌≡◌, Bool, true, false, ℤ, pos, refl, sym, ◌∙◌, ap, cond, Ordering, Less, Equal, Greater}
use Rattle.std.specs.Ordering.{int_cmp}
use Rattle.std.specs.Int.RustNames.{int_lt}
use Rattle.spec_numbers.specs.Fractions.{plus, opposite, compare}
use Rattle.spec_numbers.proofs.Order.{compare-plus}
use Rattle.spec_numbers.proofs.Field.{plus-opposite, opposite-reduced}
use Rattle.spec_tableaux.specs.Numbers.{Number, numbers, fractions}
use Rattle.spec_tableaux.proofs.Numbers.{compare_with_zero}

cmp_less : (u v : ℤ) → int_cmp u v ≡ Less → int_lt u v ≡ true
cmp_less u v h = by (int_lt u v) (int_lt v u) h
  where
    by : (p q : Bool) → cond p Less (cond q Greater Equal) ≡ Less → p ≡ true
    by true q h = refl
    by false true h = absurd (cc)
    by false false h = absurd (cc)

cmp_not : (u v : ℤ) → (int_cmp u v ≡ Less → ⊥) → int_lt u v ≡ false
cmp_not u v h = by (int_lt u v) refl
  where
    by : (p : Bool) → int_lt u v ≡ p → p ≡ false
    by true e = absurd (h (ap (λ p. cond p Less (cond (int_lt v u) Greater Equal)) e))
    by false e = refl

-- the difference has the sign of the comparison
difference_sign : (x y : Number) → int_cmp (plus x.fraction (opposite y.fraction)).num (pos 0) ≡ compare x.fraction y.fraction
difference_sign x y =
    sym (compare_with_zero (plus x.fraction (opposite y.fraction)))
    ∙ ap (compare (plus x.fraction (opposite y.fraction))) (sym (plus-opposite y.fraction y.reduced))
    ∙ compare-plus x.fraction y.fraction (opposite y.fraction) x.reduced.positive y.reduced.positive (opposite-reduced y.fraction y.reduced).positive

pub less_at : (x y : Number) → compare x.fraction y.fraction ≡ Less → true ≡ numbers.is_negative (numbers.plus x (numbers.opposite y))
unfolding numbers fractions
less_at x y h = sym (cmp_less (plus x.fraction (opposite y.fraction)).num (pos 0) (difference_sign x y ∙ h))

pub not_less_at : (x y : Number) (o : Ordering) → compare x.fraction y.fraction ≡ o → (o ≡ Less → ⊥) → false ≡ numbers.is_negative (numbers.plus x (numbers.opposite y))
unfolding numbers fractions
not_less_at x y o h n = sym (cmp_not (plus x.fraction (opposite y.fraction)).num (pos 0) (λ k. n (sym h ∙ sym (difference_sign x y) ∙ k)))
