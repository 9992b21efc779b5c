-- The laws of the greatest common divisor.
use Rattle.std.proofs.Common.{◌≡◌, ℕ, zero, suc, ◌+◌, ◌*◌, ◌/◌, ◌%◌, ◌<◌, ◌≤◌, refl, sym, ◌∙◌, ap, subst, arith}
use Rattle.std.specs.Int.{◌∣◌}
use Rattle.std.specs.Int.{IsGcd}
use Rattle.std.proofs.lemmas.Nat.Gcd.{IsGcd-from_zero, IsGcd-from_mod, dvd-zero, dvd_trans}
use Rattle.std.proofs.Math.Nat.{mul-lt-mul_of_pos_left, mod-lt, div-add-mod', mul-zero, mul-one, mul_comm, eq_of_mul-eq-mul_left, mul-div_cancel', dvd-mul_left, dvd-mul_left_of_dvd, dvd_antisymm, eq-one_of_dvd-one, pos_of_dvd_of_pos, mul-pos}
use Rattle.std.proofs.lemmas.Nat.{mod-mul-add}
use Rattle.spec_numbers.specs.Fractions.{gcd, gcd_within}

enough : (m n a b : ℕ) → b ≤ m → b ≤ n → gcd_within m a b ≡ gcd_within n a b
enough zero zero a b p q = refl
enough zero (suc n) a zero p q = refl
enough zero (suc n) a (suc b) p q = absurd (omega arith)
enough (suc m) zero a zero p q = refl
enough (suc m) zero a (suc b) p q = absurd (omega arith)
enough (suc m) (suc n) a zero p q = refl
enough (suc m) (suc n) a (suc b) p q = enough m n (suc b) (a % suc b) (omega arith) (omega arith)

pub gcd-zero : (a : ℕ) → gcd a 0 ≡ a
unfolding gcd
gcd-zero a = refl

pub gcd-step : (a b : ℕ) → 0 < b → gcd a b ≡ gcd b (a % b)
unfolding gcd
gcd-step a zero p = absurd (omega arith)
gcd-step a (suc b) p = enough b (a % suc b) (suc b) (a % suc b) (omega arith) (omega arith)

within_is : (n a b : ℕ) → b ≤ n → IsGcd a b (gcd_within n a b)
within_is zero a b p = IsGcd-from_zero a b (omega arith)
within_is (suc n) a zero p = IsGcd-from_zero a 0 refl
within_is (suc n) a (suc b) p = IsGcd-from_mod a (suc b) _ (within_is n (suc b) (a % suc b) (omega arith))

pub IsGcd-gcd : (a b : ℕ) → IsGcd a b (gcd a b)
unfolding gcd
IsGcd-gcd a b = within_is b a b (omega arith)

-- a common factor comes out
mod_of_products : (k a b : ℕ) → 0 < k → 0 < b → (k * a) % (k * b) ≡ k * (a % b)
mod_of_products k a b p q =
    let parts : k * a ≡ (a / b) * (k * b) + k * (a % b) = omega (arith, ap (λ n. k * n) (div-add-mod' a b)) in
    let small : k * (a % b) < k * b = mul-lt-mul_of_pos_left (mod-lt a q) p in
    rw parts (mod-mul-add (a / b) (k * b) (k * (a % b)) small)

factor_out : (n k a b : ℕ) → 0 < k → b ≤ n → gcd (k * a) (k * b) ≡ k * gcd a b
factor_out n k a zero p q = ap (gcd (k * a)) (mul-zero k) ∙ gcd-zero (k * a) ∙ ap (λ z. k * z) (sym (gcd-zero a))
factor_out zero k a (suc b) p q = absurd (omega arith)
factor_out (suc n) k a (suc b) p q =
    gcd-step (k * a) (k * suc b) (mul-pos p (omega arith))
    ∙ ap (gcd (k * suc b)) (mod_of_products k a (suc b) p (omega arith))
    ∙ factor_out n k (suc b) (a % suc b) p (omega arith)
    ∙ ap (λ z. k * z) (sym (gcd-step a (suc b) (omega arith)))

pub gcd-mul_left : (k a b : ℕ) → 0 < k → gcd (k * a) (k * b) ≡ k * gcd a b
gcd-mul_left k a b p = factor_out b k a b p (omega arith)

pub gcd-dvd_left : (a b : ℕ) → gcd a b ∣ a
gcd-dvd_left a b = (IsGcd-gcd a b).0

pub gcd-dvd_right : (a b : ℕ) → gcd a b ∣ b
gcd-dvd_right a b = (IsGcd-gcd a b).1

pub dvd-gcd : (d a b : ℕ) → d ∣ a → d ∣ b → d ∣ gcd a b
dvd-gcd d a b p q = (IsGcd-gcd a b).2 d p q

pub gcd_positive : (a b : ℕ) → 0 < b → 0 < gcd a b
gcd_positive a b p = pos_of_dvd_of_pos (gcd-dvd_right a b) p

-- a number over one of its divisors
pub quotient_dvd : (a d : ℕ) → d ∣ a → a / d ∣ a
quotient_dvd a d h = subst (λ z. a / d ∣ z) (mul-div_cancel' d h) (dvd-mul_left (a / d) d)

pub quotient_positive : (a d : ℕ) → d ∣ a → 0 < a → 0 < a / d
quotient_positive a d h p = pos_of_dvd_of_pos (quotient_dvd a d h) p

-- two numbers over their greatest common divisor have none but 1
pub gcd-over : (a b : ℕ) → 0 < b → gcd (a / gcd a b) (b / gcd a b) ≡ 1
gcd-over a b p =
    let g : ℕ = gcd a b in
    let g_pos : 0 < gcd a b = gcd_positive a b p in
    let ea : gcd a b * (a / gcd a b) ≡ a = mul-div_cancel' _ (gcd-dvd_left a b) in
    let eb : gcd a b * (b / gcd a b) ≡ b = mul-div_cancel' _ (gcd-dvd_right a b) in
    let e : gcd a b * gcd (a / gcd a b) (b / gcd a b) ≡ gcd a b * 1 =
    sym (gcd-mul_left (gcd a b) (a / gcd a b) (b / gcd a b) g_pos) ∙ (λ i. gcd (ea i) (eb i)) ∙ sym (mul-one (gcd a b)) in
    eq_of_mul-eq-mul_left (gcd a b) g_pos _ _ e

pub gcd-comm : (a b : ℕ) → gcd a b ≡ gcd b a
gcd-comm a b = dvd_antisymm (dvd-gcd _ b a (gcd-dvd_right a b) (gcd-dvd_left a b)) (dvd-gcd _ a b (gcd-dvd_right b a) (gcd-dvd_left b a))

-- a divisor of a product that shares no factor with one divides the other
pub dvd_of_apart : (d a b : ℕ) → d ∣ a * b → gcd d a ≡ 1 → d ∣ b
dvd_of_apart d a zero h one = dvd-zero d
dvd_of_apart d a (suc b) h one =
    let e : gcd (suc b * d) (suc b * a) ≡ suc b = gcd-mul_left (suc b) d a (omega arith) ∙ ap (λ z. suc b * z) one ∙ mul-one (suc b) in
    subst (λ z. d ∣ z) e (dvd-gcd d (suc b * d) (suc b * a) (dvd-mul_left d (suc b)) (subst (λ z. d ∣ z) (mul_comm a (suc b)) h))

-- a divisor of a shares no more than a does
pub apart_of_dvd : (d a x : ℕ) → d ∣ a → gcd a x ≡ 1 → gcd d x ≡ 1
apart_of_dvd d a x h one =
    eq-one_of_dvd-one (subst (λ z. gcd d x ∣ z) one (dvd-gcd _ a x (dvd_trans _ (gcd-dvd_left d x) h) (gcd-dvd_right d x)))

-- a factor that shares nothing with a may go
pub gcd-mul_apart : (a x y : ℕ) → gcd a x ≡ 1 → gcd a (x * y) ≡ gcd a y
gcd-mul_apart a x y one =
    dvd_antisymm (dvd-gcd _ a y (gcd-dvd_left a (x * y)) (dvd_of_apart _ x y (gcd-dvd_right a (x * y)) (apart_of_dvd _ a x (gcd-dvd_left a (x * y)) one)))
    (dvd-gcd _ a (x * y) (gcd-dvd_left a y) (dvd-mul_left_of_dvd _ (gcd-dvd_right a y) x))
