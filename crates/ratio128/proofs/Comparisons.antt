-- Comparisons of cross products, by signs and sizes.
use Rattle.std.proofs.Common.{◌≡◌, ℕ, ◌*◌, ◌<◌, Bool, true, false, ℤ, pos, negsuc, ◌*ℤ◌, ◌<ℤ◌, neg_ℤ, unsigned_abs, sym, ◌∙◌, ap, arith, Less, Equal, Greater}
use Rattle.std.specs.Ordering.{int_cmp, nat_cmp, MatchOrdering}
use Rattle.std.specs.declared.cmp.Ordering.{Ordering}
use Rattle.std.specs.Cmp.{int_cmp_is, ranks}
use Rattle.std.specs.Int.RustNames.{int_lt}
use Rattle.std.proofs.Math.IntN.{*ℤ_comm}
use Rattle.std.proofs.Math.Nat.{mul-pos}
use Rattle.std.proofs.lemmas.Int.{ints}
use Rattle.std.proofs.lemmas.Bool.Decides.{nat_tests}
use Rattle.spec_numbers.specs.Fractions.{signed_integer}
use Rattle.spec_numbers.proofs.Signs.{signed-scale}
use Rattle.spec_numbers.proofs.Order.{cmp-scale}

-- over one denominator the numerators decide
pub same_den : (u v : ℤ) (d e : ℕ) → 0 < d → d ≡ e → int_cmp u v ≡ int_cmp (u *ℤ pos e) (v *ℤ pos d)
same_den u v d e p h =
    sym (cmp-scale d u v p) ∙ (λ i. int_cmp (*ℤ_comm (pos d) u i) (*ℤ_comm (pos d) v i)) ∙ ap (λ k. int_cmp (u *ℤ pos k) (v *ℤ pos d)) h

above_both : (x y : ℕ) → nat_cmp x y ≡ int_cmp (pos x) (pos y)
above_both x y = int_cmp_is (pos x) (pos y) (nat_cmp x y) (by (nat_cmp x y) (ranks x y))
  where
    by : (r : Ordering) → MatchOrdering r (x < y) (x ≡ y) (y < x) → MatchOrdering r (pos x <ℤ pos y) (pos x ≡ pos y) (pos y <ℤ pos x)
    by Less h = omega (arith, ints)
    by Equal h = ap pos h
    by Greater h = omega (arith, ints)

below_both : (x y : ℕ) → nat_cmp y x ≡ int_cmp (neg_ℤ (pos x)) (neg_ℤ (pos y))
below_both x y = int_cmp_is (neg_ℤ (pos x)) (neg_ℤ (pos y)) (nat_cmp y x) (by (nat_cmp y x) (ranks y x))
  where
    by : (r : Ordering) → MatchOrdering r (y < x) (y ≡ x) (x < y) → MatchOrdering r (neg_ℤ (pos x) <ℤ neg_ℤ (pos y)) (neg_ℤ (pos x) ≡ neg_ℤ (pos y)) (neg_ℤ (pos y) <ℤ neg_ℤ (pos x))
    by Less h = omega (arith, ints)
    by Equal h = ap (λ n. neg_ℤ (pos n)) (sym h)
    by Greater h = omega (arith, ints)

apart : (x y : ℕ) → 0 < x → neg_ℤ (pos x) <ℤ pos y
apart x y h = omega (arith, ints)

size_above : (u : ℤ) → int_lt u (pos 0) ≡ true → 0 < unsigned_abs u
size_above (pos n) h = absurd (grind (arith, nat_tests))
size_above (negsuc n) h = omega arith

-- a cross product by its sign and its size
scaled : (u : ℤ) (e : ℕ) (b : Bool) → int_lt u (pos 0) ≡ b → u *ℤ pos e ≡ signed_integer b (unsigned_abs u * e)
scaled u e b h = signed-scale u e ∙ ap (λ b. signed_integer b (unsigned_abs u * e)) h

pub both_above : (u v : ℤ) (d e : ℕ) → int_lt u (pos 0) ≡ false → int_lt v (pos 0) ≡ false
    → nat_cmp (unsigned_abs u * e) (unsigned_abs v * d) ≡ int_cmp (u *ℤ pos e) (v *ℤ pos d)
both_above u v d e h k = above_both (unsigned_abs u * e) (unsigned_abs v * d) ∙ (λ i. int_cmp (sym (scaled u e false h) i) (sym (scaled v d false k) i))

pub both_below : (u v : ℤ) (d e : ℕ) → int_lt u (pos 0) ≡ true → int_lt v (pos 0) ≡ true
    → nat_cmp (unsigned_abs v * d) (unsigned_abs u * e) ≡ int_cmp (u *ℤ pos e) (v *ℤ pos d)
both_below u v d e h k = below_both (unsigned_abs u * e) (unsigned_abs v * d) ∙ (λ i. int_cmp (sym (scaled u e true h) i) (sym (scaled v d true k) i))

pub left_below : (u v : ℤ) (d e : ℕ) → 0 < e → int_lt u (pos 0) ≡ true → int_lt v (pos 0) ≡ false → Less ≡ int_cmp (u *ℤ pos e) (v *ℤ pos d)
left_below u v d e p h k =
    int_cmp_is (neg_ℤ (pos (unsigned_abs u * e))) (pos (unsigned_abs v * d)) Less (apart _ _ (mul-pos (size_above u h) p))
    ∙ (λ i. int_cmp (sym (scaled u e true h) i) (sym (scaled v d false k) i))

pub right_below : (u v : ℤ) (d e : ℕ) → 0 < d → int_lt u (pos 0) ≡ false → int_lt v (pos 0) ≡ true → Greater ≡ int_cmp (u *ℤ pos e) (v *ℤ pos d)
right_below u v d e p h k =
    int_cmp_is (pos (unsigned_abs u * e)) (neg_ℤ (pos (unsigned_abs v * d))) Greater (apart _ _ (mul-pos (size_above v k) p))
    ∙ (λ i. int_cmp (sym (scaled u e false h) i) (sym (scaled v d true k) i))
