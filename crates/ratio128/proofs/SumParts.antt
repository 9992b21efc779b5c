-- The sum of two fractions in lowest terms, by way of the least common multiple of the denominators.
use Rattle.std.proofs.Common.{◌≡◌, ℕ, ◌+◌, ◌-◌, ◌*◌, ◌/◌, ◌<◌, ℤ, pos, negsuc, ◌+ℤ◌, ◌*ℤ◌, neg_ℤ, unsigned_abs, sym, ◌∙◌, ap, subst, arith}
use Rattle.std.specs.Int.{◌∣◌}
use Rattle.std.specs.Int.RustNames.{int_lt}
use Rattle.std.proofs.Math.IntN.{sub_ℕ, +ℤ-neg_ℤ_cancel, +ℤ_comm}
use Rattle.std.proofs.Math.Nat.{mul_comm, mul-div_cancel', mul-div-mul_left, mul-div_assoc, dvd-add, dvd-sub, dvd_trans, dvd_antisymm, dvd-mul_left}
use Rattle.std.proofs.lemmas.Int.{ints, unsigned_abs-mul}
use Rattle.spec_numbers.specs.Fractions.{Fraction, gcd, over, signed_integer, plus, IsReduced}
use Rattle.spec_numbers.specs.Bounds.{common_sum}
use Rattle.spec_numbers.proofs.Gcd.{gcd-mul_left, gcd-dvd_left, gcd-dvd_right, dvd-gcd, gcd_positive, gcd-over, gcd-comm, gcd-mul_apart, apart_of_dvd, quotient_dvd}
use Rattle.spec_numbers.proofs.Signs.{signed-self, over-signed, abs-signed, abs-neg, pos-signed}
use Rattle.spec_numbers.proofs.Integers.{by_two}
use Rattle.spec_numbers.proofs.Differences.{diff-same, diff-sum, diff-product, diff-pos}

-- a common factor of the denominators goes out of the sum
out_of_sum : (x y : ℤ) (p q g : ℕ) → x *ℤ pos (p * g) +ℤ y *ℤ pos (q * g) ≡ pos g *ℤ (x *ℤ pos p +ℤ y *ℤ pos q)
out_of_sum x y p q g = by_two (λ x y. x *ℤ pos (p * g) +ℤ y *ℤ pos (q * g) ≡ pos g *ℤ (x *ℤ pos p +ℤ y *ℤ pos q))
    (λ a b c d. simp (← diff-pos) (simp (diff-product, diff-sum) (diff-same _ _ _ _ (omega arith)))) x y

abs-sub : (a c : ℕ) → unsigned_abs (sub_ℕ a c) ≡ (a - c) + (c - a)
abs-sub a c = grind (arith, ints)

dvd_of_sum : (d : ℕ) (u v : ℤ) → d ∣ unsigned_abs u → d ∣ unsigned_abs v → d ∣ unsigned_abs (u +ℤ v)
dvd_of_sum d (pos a) (pos b) p q = dvd-add d p q
dvd_of_sum d (pos a) (negsuc b) p q = rw abs-sub (dvd-add d (dvd-sub d p q) (dvd-sub d q p))
dvd_of_sum d (negsuc a) (pos b) p q = rw abs-sub (dvd-add d (dvd-sub d q p) (dvd-sub d p q))
dvd_of_sum d (negsuc a) (negsuc b) p q = subst (λ n. d ∣ n) (omega arith) (dvd-add d p q)

-- what divides a summand shares with the sum what it shares with the other one
gcd-sum : (u v : ℤ) (k : ℕ) → k ∣ unsigned_abs v → gcd (unsigned_abs (u +ℤ v)) k ≡ gcd (unsigned_abs u) k
gcd-sum u v k h =
    let d : ℕ = gcd (unsigned_abs (u +ℤ v)) k in
    let back : gcd (unsigned_abs (u +ℤ v)) k ∣ unsigned_abs u =
    subst (λ z. gcd (unsigned_abs (u +ℤ v)) k ∣ unsigned_abs z) (+ℤ-neg_ℤ_cancel u v)
    (dvd_of_sum (gcd (unsigned_abs (u +ℤ v)) k) (u +ℤ v) (neg_ℤ v) (gcd-dvd_left (unsigned_abs (u +ℤ v)) k) (rw abs-neg (dvd_trans _ (gcd-dvd_right (unsigned_abs (u +ℤ v)) k) h))) in
    dvd_antisymm
    (dvd-gcd _ _ k back (gcd-dvd_right (unsigned_abs (u +ℤ v)) k))
    (dvd-gcd _ _ k (dvd_of_sum _ u v (gcd-dvd_left (unsigned_abs u) k) (dvd_trans _ (gcd-dvd_right (unsigned_abs u) k) h)) (gcd-dvd_right (unsigned_abs u) k))

-- how the sum of two fractions is cut: only g can share factors with the sum s
gcd_of_sum : (s a b c d g : ℕ) → gcd a b ≡ 1 → gcd c d ≡ 1 → gcd b d ≡ 1 → gcd s b ≡ gcd (a * d) b → gcd s d ≡ gcd (c * b) d
    → gcd s (b * (d * g)) ≡ gcd s g
gcd_of_sum s a b c d g ab cd bd sb sd =
    let s_b : gcd s b ≡ 1 =
    sb ∙ gcd-comm (a * d) b ∙ gcd-mul_apart b a d (gcd-comm b a ∙ ab) ∙ bd in
    let s_d : gcd s d ≡ 1 =
    sd ∙ gcd-comm (c * b) d ∙ gcd-mul_apart d c b (gcd-comm d c ∙ cd) ∙ gcd-comm d b ∙ bd in
    gcd-mul_apart s b (d * g) s_b ∙ gcd-mul_apart s d g s_d

first_out : (a g n : ℕ) → (a * g) * n ≡ g * (a * n)
first_out a g n = omega arith

-- x / m and y / n in lowest terms, with t as the size of the numerator over the least common multiple: only the
-- greatest common divisor of m and n can share divisors with t
gcd_of_common : (x y : ℤ) (m n t : ℕ) → 0 < m → 0 < n → gcd (unsigned_abs x) m ≡ 1 → gcd (unsigned_abs y) n ≡ 1
    → unsigned_abs (common_sum (record { num = x; den = m }) (record { num = y; den = n })) ≡ t → gcd t ((m / gcd m n) * n) ≡ gcd t (gcd m n)
gcd_of_common x y m n t mp np xm yn size =
    let en : (n / gcd m n) * gcd m n ≡ n = mul_comm (n / gcd m n) (gcd m n) ∙ mul-div_cancel' _ (gcd-dvd_right m n) in
    let left : gcd (unsigned_abs x) (m / gcd m n) ≡ 1 =
    gcd-comm (unsigned_abs x) (m / gcd m n) ∙ apart_of_dvd (m / gcd m n) m (unsigned_abs x) (quotient_dvd m _ (gcd-dvd_left m n)) (gcd-comm m (unsigned_abs x) ∙ xm) in
    let right : gcd (unsigned_abs y) (n / gcd m n) ≡ 1 =
    gcd-comm (unsigned_abs y) (n / gcd m n) ∙ apart_of_dvd (n / gcd m n) n (unsigned_abs y) (quotient_dvd n _ (gcd-dvd_right m n)) (gcd-comm n (unsigned_abs y) ∙ yn) in
    let with_m : gcd t (m / gcd m n) ≡ gcd (unsigned_abs x * (n / gcd m n)) (m / gcd m n) =
    ap (λ z. gcd z (m / gcd m n)) (sym size)
    ∙ gcd-sum (x *ℤ pos (n / gcd m n)) (y *ℤ pos (m / gcd m n)) (m / gcd m n) (rw unsigned_abs-mul (dvd-mul_left (m / gcd m n) (unsigned_abs y)))
    ∙ ap (λ z. gcd z (m / gcd m n)) (unsigned_abs-mul x (pos (n / gcd m n))) in
    let with_n : gcd t (n / gcd m n) ≡ gcd (unsigned_abs y * (m / gcd m n)) (n / gcd m n) =
    ap (λ z. gcd z (n / gcd m n)) (sym size)
    ∙ ap (λ z. gcd (unsigned_abs z) (n / gcd m n)) (+ℤ_comm (x *ℤ pos (n / gcd m n)) (y *ℤ pos (m / gcd m n)))
    ∙ gcd-sum (y *ℤ pos (m / gcd m n)) (x *ℤ pos (n / gcd m n)) (n / gcd m n) (rw unsigned_abs-mul (dvd-mul_left (n / gcd m n) (unsigned_abs x)))
    ∙ ap (λ z. gcd z (n / gcd m n)) (unsigned_abs-mul y (pos (m / gcd m n))) in
    ap (λ z. gcd t ((m / gcd m n) * z)) (sym en)
    ∙ gcd_of_sum t (unsigned_abs x) (m / gcd m n) (unsigned_abs y) (n / gcd m n) (gcd m n) left right (gcd-over m n np) with_m with_n

-- the sum of two fractions in lowest terms, by the parts that are computed
pub sum_is : (x y : Fraction) → IsReduced x → IsReduced y → (g k : ℕ) (s : ℤ) → g ≡ gcd x.den y.den → s ≡ common_sum x y → k ≡ gcd (unsigned_abs s) g
    → plus x y ≡ record { num = over s k; den = (x.den / g) * (y.den / k) }
unfolding plus
sum_is x y r q g k s eg es ek =
    let m = x.den in let n = y.den in let b = int_lt s (pos 0) in let t = unsigned_abs s in
    let whole : x.num *ℤ pos y.den +ℤ y.num *ℤ pos x.den ≡ signed_integer (int_lt s (pos 0)) (gcd x.den y.den * unsigned_abs s) =
    wholly x.num y.num x.den y.den ∙ ap (λ z. pos (gcd x.den y.den) *ℤ z) (sym es ∙ signed-self s) ∙ pos-signed (int_lt s (pos 0)) (gcd x.den y.den) (unsigned_abs s) in
    let bottom : x.den * y.den ≡ gcd x.den y.den * ((x.den / gcd x.den y.den) * y.den) =
    ap (λ z. z * y.den) (sym (back x.den y.den)) ∙ first_out (x.den / gcd x.den y.den) (gcd x.den y.den) y.den in
    let h : gcd (unsigned_abs s) ((x.den / gcd x.den y.den) * y.den) ≡ gcd (unsigned_abs s) (gcd x.den y.den) =
    gcd_of_common x.num y.num x.den y.den (unsigned_abs s) r.positive q.positive r.coprime q.coprime (ap unsigned_abs (sym es)) in
    let w : gcd (unsigned_abs (x.num *ℤ pos y.den +ℤ y.num *ℤ pos x.den)) (x.den * y.den) ≡ gcd x.den y.den * gcd (unsigned_abs s) (gcd x.den y.den) =
    (λ i. gcd (unsigned_abs (whole i)) (bottom i)) ∙ ap (λ z. gcd z (gcd x.den y.den * ((x.den / gcd x.den y.den) * y.den))) (abs-signed (int_lt s (pos 0)) (gcd x.den y.den * unsigned_abs s))
    ∙ gcd-mul_left (gcd x.den y.den) (unsigned_abs s) ((x.den / gcd x.den y.den) * y.den) (gcd_positive x.den y.den q.positive) ∙ ap (λ z. gcd x.den y.den * z) h in
    let f : gcd (unsigned_abs s) (gcd x.den y.den) ≡ k = ap (gcd (unsigned_abs s)) (sym eg) ∙ sym ek in
    λ i. record {
      num = ((λ i. over (whole i) (w i)) ∙ over-signed b (gcd m n * t) (gcd m n * gcd t (gcd m n)) ∙ ap (signed_integer b) (mul-div-mul_left t (gcd t (gcd m n)) (gcd_positive m n q.positive))
          ∙ sym (over-signed b t (gcd t (gcd m n))) ∙ (λ i. over (sym (signed-self s) i) (f i))) i;
      den = ((λ i. bottom i / w i) ∙ mul-div-mul_left ((m / gcd m n) * n) (gcd t (gcd m n)) (gcd_positive m n q.positive)
          ∙ mul-div_assoc (gcd t (gcd m n)) (m / gcd m n) (dvd_trans _ (gcd-dvd_right t (gcd m n)) (gcd-dvd_right m n)) ∙ (λ i. (m / sym eg i) * (n / f i))) i;
    }
  where
    back : (m n : ℕ) → (m / gcd m n) * gcd m n ≡ m
    back m n = mul_comm (m / gcd m n) (gcd m n) ∙ mul-div_cancel' _ (gcd-dvd_left m n)

    back_right : (m n : ℕ) → (n / gcd m n) * gcd m n ≡ n
    back_right m n = mul_comm (n / gcd m n) (gcd m n) ∙ mul-div_cancel' _ (gcd-dvd_right m n)

    wholly : (u v : ℤ) (m n : ℕ) → u *ℤ pos n +ℤ v *ℤ pos m ≡ pos (gcd m n) *ℤ (u *ℤ pos (n / gcd m n) +ℤ v *ℤ pos (m / gcd m n))
    wholly u v m n = (λ i. u *ℤ pos (sym (back_right m n) i) +ℤ v *ℤ pos (sym (back m n) i)) ∙ out_of_sum u v (n / gcd m n) (m / gcd m n) (gcd m n)
