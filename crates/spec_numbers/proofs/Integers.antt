-- Identities of integers, decided as differences of naturals.
use Rattle.std.proofs.Common.{◌≡◌, ℕ, ◌*◌, ℤ, pos, ◌+ℤ◌, ◌*ℤ◌, neg_ℤ, subst, arith}
use Rattle.std.proofs.Math.IntN.{*ℤ-one, one}
use Rattle.spec_numbers.proofs.Differences.{diff, diff-same, diff-sum, diff-product, diff-neg, diff-pos, diff_of}

-- what holds of each difference holds of each integer
pub by_one : (P : ℤ → Type 0) → ((a b : ℕ) → P (diff a b)) → (x : ℤ) → P x
by_one P h x = let u = diff_of x in subst P u.same (h u.first u.second)

pub by_two : (P : ℤ → ℤ → Type 0) → ((a b c d : ℕ) → P (diff a b) (diff c d)) → (x y : ℤ) → P x y
by_two P h x y = by_one (λ x. P x y) (λ a b. by_one (P (diff a b)) (λ c d. h a b c d) y) x

pub by_three : (P : ℤ → ℤ → ℤ → Type 0) → ((a b c d e f : ℕ) → P (diff a b) (diff c d) (diff e f)) → (x y z : ℤ) → P x y z
by_three P h x y z = by_one (λ x. P x y z) (λ a b. by_two (P (diff a b)) (λ c d e f. h a b c d e f) y z) x

pub sum_scale : (z w : ℤ) (k e d : ℕ) → (pos k *ℤ z) *ℤ pos e +ℤ w *ℤ pos (k * d) ≡ pos k *ℤ (z *ℤ pos e +ℤ w *ℤ pos d)
sum_scale z w k e d = by_two (λ z w. (pos k *ℤ z) *ℤ pos e +ℤ w *ℤ pos (k * d) ≡ pos k *ℤ (z *ℤ pos e +ℤ w *ℤ pos d))
    (λ a b c f. simp (← diff-pos) (simp (diff-product, diff-sum) (diff-same _ _ _ _ (omega arith)))) z w

pub sum_regroup : (x y z : ℤ) (p q r : ℕ)
    → (x *ℤ pos q +ℤ y *ℤ pos p) *ℤ pos r +ℤ z *ℤ pos (p * q) ≡ (y *ℤ pos r +ℤ z *ℤ pos q) *ℤ pos p +ℤ x *ℤ pos (q * r)
sum_regroup x y z p q r = by_three (λ x y z. (x *ℤ pos q +ℤ y *ℤ pos p) *ℤ pos r +ℤ z *ℤ pos (p * q) ≡ (y *ℤ pos r +ℤ z *ℤ pos q) *ℤ pos p +ℤ x *ℤ pos (q * r))
    (λ a b c d e f. simp (← diff-pos) (simp (diff-product, diff-sum) (diff-same _ _ _ _ (omega arith)))) x y z

pub product_regroup : (x y z : ℤ) → (x *ℤ y) *ℤ z ≡ x *ℤ (y *ℤ z)
product_regroup x y z = by_three (λ x y z. (x *ℤ y) *ℤ z ≡ x *ℤ (y *ℤ z))
    (λ a b c d e f. simp diff-product (diff-same _ _ _ _ (omega arith))) x y z

pub product_spread : (x y z : ℤ) (p q r : ℕ)
    → (x *ℤ z) *ℤ pos (q * r) +ℤ (y *ℤ z) *ℤ pos (p * r) ≡ pos r *ℤ ((x *ℤ pos q +ℤ y *ℤ pos p) *ℤ z)
product_spread x y z p q r = by_three (λ x y z. (x *ℤ z) *ℤ pos (q * r) +ℤ (y *ℤ z) *ℤ pos (p * r) ≡ pos r *ℤ ((x *ℤ pos q +ℤ y *ℤ pos p) *ℤ z))
    (λ a b c d e f. simp (← diff-pos) (simp (diff-product, diff-sum) (diff-same _ _ _ _ (omega arith)))) x y z

pub opposite_product : (x y : ℤ) → neg_ℤ x *ℤ y ≡ neg_ℤ (x *ℤ y)
opposite_product x y = by_two (λ x y. neg_ℤ x *ℤ y ≡ neg_ℤ (x *ℤ y))
    (λ a b c d. simp (diff-neg, diff-product) (diff-same _ _ _ _ (omega arith))) x y

pub opposite_sum : (x y : ℤ) (p q : ℕ) → neg_ℤ x *ℤ pos p +ℤ neg_ℤ y *ℤ pos q ≡ neg_ℤ (x *ℤ pos p +ℤ y *ℤ pos q)
opposite_sum x y p q = by_two (λ x y. neg_ℤ x *ℤ pos p +ℤ neg_ℤ y *ℤ pos q ≡ neg_ℤ (x *ℤ pos p +ℤ y *ℤ pos q))
    (λ a b c d. simp (← diff-pos) (simp (diff-neg, diff-product, diff-sum) (diff-same _ _ _ _ (omega arith)))) x y

pub times_whole : (z : ℤ) → z *ℤ pos 1 ≡ z
unfolding one
times_whole z = *ℤ-one z
