-- Products of fractions in lowest terms, with common divisors taken out crosswise.
use Rattle.std.proofs.Common.{◌≡◌, ℕ, ◌*◌, ◌/◌, ◌<◌, not, ℤ, pos, ◌*ℤ◌, unsigned_abs, sym, ◌∙◌, ap, arith}
use Rattle.std.specs.Int.RustNames.{int_lt}
use Rattle.std.specs.Bool.{beq}
use Rattle.std.proofs.Math.Nat.{mul-pos, mul-div_cancel', mul-one, div-eq_of_eq-mul_right}
use Rattle.std.proofs.lemmas.Int.{unsigned_abs-mul}
use Rattle.spec_numbers.specs.Fractions.{Fraction, gcd, over, signed_integer, times, IsReduced}
use Rattle.spec_numbers.proofs.Signs.{signed-self, signed-mul, over-signed}
use Rattle.spec_numbers.proofs.Gcd.{gcd-mul_left, gcd-dvd_left, gcd-dvd_right, gcd_positive, gcd-over, gcd-comm, gcd-mul_apart, apart_of_dvd, quotient_dvd}

-- numbers without a common divisor, each of the first pair with each of the second
gcd-products : (a b c d : ℕ) → gcd a b ≡ 1 → gcd a d ≡ 1 → gcd c b ≡ 1 → gcd c d ≡ 1 → gcd (a * c) (b * d) ≡ 1
gcd-products a b c d ab ad cb cd =
    let x : gcd a (b * d) ≡ 1 = gcd-mul_apart a b d ab ∙ ad in
    let y : gcd c (b * d) ≡ 1 = gcd-mul_apart c b d cb ∙ cd in
    gcd-comm (a * c) (b * d) ∙ gcd-mul_apart (b * d) a c (gcd-comm (b * d) a ∙ x) ∙ gcd-comm (b * d) c ∙ y

-- x / m and y / n in lowest terms, and what their product is divided by
record Crosswise (x y m n : ℕ) : Type 0 where
  shared : gcd (x * y) (m * n) ≡ gcd x n * gcd y m
  bottom : m * n / (gcd x n * gcd y m) ≡ (m / gcd y m) * (n / gcd x n)
  top : x * y / (gcd x n * gcd y m) ≡ (x / gcd x n) * (y / gcd y m)

crosswise_of : (x y m n p q x' y' m' n' : ℕ) → 0 < p → 0 < q → p * x' ≡ x → q * y' ≡ y → q * m' ≡ m → p * n' ≡ n
    → gcd (x' * y') (m' * n') ≡ 1
    → (gcd (x * y) (m * n) ≡ p * q) × (x * y / (p * q) ≡ x' * y') × (m * n / (p * q) ≡ m' * n')
crosswise_of x y m n p q x' y' m' n' pp qp ex ey em en one =
    let top : x * y ≡ p * q * (x' * y') = rw (← ex, ← ey) (omega arith) in
    let bottom : m * n ≡ p * q * (m' * n') = rw (← em, ← en) (omega arith) in
    let pq : 0 < p * q = mul-pos pp qp in (
      (λ i. gcd (top i) (bottom i)) ∙ gcd-mul_left (p * q) (x' * y') (m' * n') pq ∙ ap (λ z. p * q * z) one ∙ mul-one (p * q),
      div-eq_of_eq-mul_right pq top,
      div-eq_of_eq-mul_right pq bottom,
    )

crosswise_coprime : (x y m n : ℕ) → 0 < m → 0 < n → gcd x m ≡ 1 → gcd y n ≡ 1
    → gcd ((x / gcd x n) * (y / gcd y m)) ((m / gcd y m) * (n / gcd x n)) ≡ 1
crosswise_coprime x y m n mp np xm yn =
    gcd-products (x / gcd x n) (m / gcd y m) (y / gcd y m) (n / gcd x n)
    (apart_of_dvd _ x _ (quotient_dvd x _ (gcd-dvd_left x n)) (gcd-comm x _ ∙ apart_of_dvd _ m x (quotient_dvd m _ (gcd-dvd_right y m)) (gcd-comm m x ∙ xm)))
    (gcd-over x n np)
    (gcd-over y m mp)
    (apart_of_dvd _ y _ (quotient_dvd y _ (gcd-dvd_left y m)) (gcd-comm y _ ∙ apart_of_dvd _ n y (quotient_dvd n _ (gcd-dvd_right x n)) (gcd-comm n y ∙ yn)))

crosswise : (x y m n : ℕ) → 0 < m → 0 < n → gcd x m ≡ 1 → gcd y n ≡ 1 → Crosswise x y m n
crosswise x y m n mp np xm yn =
    let r = crosswise_of x y m n (gcd x n) (gcd y m) (x / gcd x n) (y / gcd y m) (m / gcd y m) (n / gcd x n) (gcd_positive x n np) (gcd_positive y m mp)
    (mul-div_cancel' _ (gcd-dvd_left x n)) (mul-div_cancel' _ (gcd-dvd_left y m)) (mul-div_cancel' _ (gcd-dvd_right y m)) (mul-div_cancel' _ (gcd-dvd_right x n))
    (crosswise_coprime x y m n mp np xm yn) in
    record { shared = r.0; top = r.1; bottom = r.2 }

-- a quotient of a product is one of quotients
over-product : (x y : ℤ) (p q : ℕ) → unsigned_abs x * unsigned_abs y / (p * q) ≡ (unsigned_abs x / p) * (unsigned_abs y / q) → over (x *ℤ y) (p * q) ≡ over x p *ℤ over y q
over-product x y p q e =
    let b = int_lt x (pos 0) in let c = int_lt y (pos 0) in
    (λ i. over (signed-self x i *ℤ signed-self y i) (p * q))
    ∙ ap (λ z. over z (p * q)) (signed-mul b c (unsigned_abs x) (unsigned_abs y))
    ∙ over-signed (not (beq b c)) (unsigned_abs x * unsigned_abs y) (p * q)
    ∙ ap (signed_integer (not (beq b c))) e
    ∙ sym (signed-mul b c (unsigned_abs x / p) (unsigned_abs y / q))
    ∙ (λ i. sym (over-signed b (unsigned_abs x) p) i *ℤ sym (over-signed c (unsigned_abs y) q) i)
    ∙ (λ i. over (sym (signed-self x) i) p *ℤ over (sym (signed-self y) i) q)

-- the product of two fractions in lowest terms, by the parts that are computed
pub product_is : (x y : Fraction) → IsReduced x → IsReduced y → (p q : ℕ) → p ≡ gcd (unsigned_abs x.num) y.den → q ≡ gcd (unsigned_abs y.num) x.den
    → times x y ≡ record { num = over x.num p *ℤ over y.num q; den = (x.den / q) * (y.den / p) }
unfolding times
product_is x y r s p q ep eq =
    let k = crosswise (unsigned_abs x.num) (unsigned_abs y.num) x.den y.den r.positive s.positive r.coprime s.coprime in
    let g : gcd (unsigned_abs (x.num *ℤ y.num)) (x.den * y.den) ≡ gcd (unsigned_abs x.num) y.den * gcd (unsigned_abs y.num) x.den =
    ap (λ t. gcd t (x.den * y.den)) (unsigned_abs-mul x.num y.num) ∙ k.shared in
    λ i. record {
      num = (ap (over (x.num *ℤ y.num)) g ∙ over-product x.num y.num (gcd (unsigned_abs x.num) y.den) (gcd (unsigned_abs y.num) x.den) k.top
          ∙ (λ i. over x.num (sym ep i) *ℤ over y.num (sym eq i))) i;
      den = (ap (λ t. x.den * y.den / t) g ∙ k.bottom ∙ (λ i. (x.den / sym eq i) * (y.den / sym ep i))) i;
    }
