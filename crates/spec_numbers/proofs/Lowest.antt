-- Lowest terms.
use Rattle.std.proofs.Common.{◌≡◌, ℕ, zero, suc, ◌*◌, ◌/◌, ◌<◌, Bool, ℤ, pos, ◌*ℤ◌, unsigned_abs, refl, sym, ◌∙◌, ap, subst, arith}
use Rattle.std.specs.Int.RustNames.{int_lt}
use Rattle.std.proofs.Math.IntN.{*ℤ_comm}
use Rattle.std.proofs.Math.Nat.{mul_comm, mul-div-mul_left, mul-div_cancel', div-one}
use Rattle.spec_numbers.specs.Fractions.{Fraction, gcd, lowest, over, signed_integer, IsReduced, SameValue}
use Rattle.spec_numbers.proofs.Gcd.{gcd-mul_left, gcd-dvd_left, gcd-dvd_right, gcd_positive, gcd-over, quotient_positive}
use Rattle.spec_numbers.proofs.Signs.{signed-self, over-signed, abs-signed, abs-over, signed-scale, pos-signed, zero-times}

-- a common factor changes nothing
scaled : (b : Bool) (n d k : ℕ) → 0 < k → lowest (signed_integer b (k * n)) (k * d) ≡ lowest (signed_integer b n) d
scaled b n d k kp =
    let g : gcd (unsigned_abs (signed_integer b (k * n))) (k * d) ≡ k * gcd (unsigned_abs (signed_integer b n)) d =
    ap (λ t. gcd t (k * d)) (abs-signed b (k * n)) ∙ gcd-mul_left k n d kp ∙ ap (λ t. k * gcd t d) (sym (abs-signed b n)) in
    λ i. record {
      num = (ap (over (signed_integer b (k * n))) g ∙ over-signed b (k * n) (k * gcd (unsigned_abs (signed_integer b n)) d)
          ∙ ap (signed_integer b) (mul-div-mul_left n (gcd (unsigned_abs (signed_integer b n)) d) kp) ∙ sym (over-signed b n (gcd (unsigned_abs (signed_integer b n)) d))) i;
      den = (ap (λ t. k * d / t) g ∙ mul-div-mul_left d (gcd (unsigned_abs (signed_integer b n)) d) kp) i;
    }

pub lowest-scale : (z : ℤ) (d k : ℕ) → 0 < k → lowest (pos k *ℤ z) (k * d) ≡ lowest z d
lowest-scale z d k kp =
    let e = signed-self z in
    (λ i. lowest (pos k *ℤ e i) (k * d)) ∙ ap (λ t. lowest t (k * d)) (pos-signed (int_lt z (pos 0)) k (unsigned_abs z))
    ∙ scaled (int_lt z (pos 0)) (unsigned_abs z) d k kp ∙ ap (λ t. lowest t d) (sym e)

-- the common factor that went
pub num_back : (z : ℤ) (d : ℕ) → pos (gcd (unsigned_abs z) d) *ℤ (lowest z d).num ≡ z
num_back z d =
    let b = int_lt z (pos 0) in
    let en : gcd (unsigned_abs z) d * (unsigned_abs z / gcd (unsigned_abs z) d) ≡ unsigned_abs z = mul-div_cancel' _ (gcd-dvd_left (unsigned_abs z) d) in
    (λ i. pos (gcd (unsigned_abs z) d) *ℤ over (signed-self z i) (gcd (unsigned_abs z) d))
    ∙ ap (λ t. pos (gcd (unsigned_abs z) d) *ℤ t) (over-signed b (unsigned_abs z) (gcd (unsigned_abs z) d))
    ∙ pos-signed b (gcd (unsigned_abs z) d) (unsigned_abs z / gcd (unsigned_abs z) d)
    ∙ ap (signed_integer b) en ∙ sym (signed-self z)

pub den_back : (z : ℤ) (d : ℕ) → gcd (unsigned_abs z) d * (lowest z d).den ≡ d
den_back z d = mul-div_cancel' _ (gcd-dvd_right (unsigned_abs z) d)

-- what is made of parts, homogeneous in them, may be made of lowest terms
through_by : (F : ℤ → ℕ → ℤ) (G : ℕ → ℕ) → ((k : ℕ) (z : ℤ) (d : ℕ) → F (pos k *ℤ z) (k * d) ≡ pos k *ℤ F z d) → ((k d : ℕ) → G (k * d) ≡ k * G d)
    → (g : ℕ) (z y : ℤ) (d e : ℕ) → pos g *ℤ y ≡ z → g * e ≡ d → (g ≡ 0 → (y ≡ z) × (e ≡ d)) → lowest (F y e) (G e) ≡ lowest (F z d) (G d)
through_by F G hF hG zero z y d e p q r = let s = r refl in λ i. lowest (F (s.0 i) (s.1 i)) (G (s.1 i))
through_by F G hF hG (suc g) z y d e p q r =
    sym (lowest-scale (F y e) (G e) (suc g) (omega arith))
    ∙ (λ i. lowest (sym (hF (suc g) y e) i) (sym (hG (suc g) e) i))
    ∙ (λ i. lowest (F (p i) (q i)) (G (q i)))

zero_num : (lowest (pos 0) 0).num ≡ pos 0
unfolding gcd
zero_num = refl

zero_den : (lowest (pos 0) 0).den ≡ 0
unfolding gcd
zero_den = refl

both_zero : (z : ℤ) (d : ℕ) → gcd (unsigned_abs z) d ≡ 0 → ((lowest z d).num ≡ z) × ((lowest z d).den ≡ d)
both_zero z d e =
    let dz : d ≡ 0 = sym (den_back z d) ∙ ap (λ g. g * (lowest z d).den) e ∙ (omega arith) in
    let zz : z ≡ pos 0 = sym (num_back z d) ∙ ap (λ g. pos g *ℤ (lowest z d).num) e ∙ zero-times ((lowest z d).num) in (
      subst (λ z. (lowest z d).num ≡ z) (sym zz) (subst (λ d. (lowest (pos 0) d).num ≡ pos 0) (sym dz) zero_num),
      subst (λ z. (lowest z d).den ≡ d) (sym zz) (subst (λ d. (lowest (pos 0) d).den ≡ d) (sym dz) zero_den),
    )

-- what is made of parts, homogeneous in them, may be made of lowest terms
pub through : (F : ℤ → ℕ → ℤ) (G : ℕ → ℕ) → ((k : ℕ) (z : ℤ) (d : ℕ) → F (pos k *ℤ z) (k * d) ≡ pos k *ℤ F z d) → ((k d : ℕ) → G (k * d) ≡ k * G d)
    → (z : ℤ) (d : ℕ) → lowest (F (lowest z d).num (lowest z d).den) (G (lowest z d).den) ≡ lowest (F z d) (G d)
through F G hF hG z d = through_by F G hF hG (gcd (unsigned_abs z) d) z (lowest z d).num d (lowest z d).den (num_back z d) (den_back z d) (both_zero z d)

-- fractions with one value have one lowest form
pub lowest-cross : (z w : ℤ) (d e : ℕ) → 0 < d → 0 < e → z *ℤ pos e ≡ w *ℤ pos d → lowest z d ≡ lowest w e
lowest-cross z w d e dp ep h =
    sym (lowest-scale z d e ep) ∙ (λ i. lowest ((*ℤ_comm (pos e) z ∙ h ∙ *ℤ_comm w (pos d)) i) (mul_comm e d i)) ∙ lowest-scale w e d dp

-- the lowest form has the value
pub lowest-value : (z : ℤ) (d : ℕ) → 0 < d → (lowest z d).num *ℤ pos d ≡ z *ℤ pos (lowest z d).den
lowest-value z d dp =
    let g : 0 < gcd (unsigned_abs z) d = gcd_positive (unsigned_abs z) d dp in
    let en : gcd (unsigned_abs z) d * (unsigned_abs z / gcd (unsigned_abs z) d) ≡ unsigned_abs z = mul-div_cancel' _ (gcd-dvd_left (unsigned_abs z) d) in
    let ed : gcd (unsigned_abs z) d * (d / gcd (unsigned_abs z) d) ≡ d = mul-div_cancel' _ (gcd-dvd_right (unsigned_abs z) d) in
    let b = int_lt z (pos 0) in
    (λ i. over (signed-self z i) (gcd (unsigned_abs z) d) *ℤ pos d)
    ∙ ap (λ t. t *ℤ pos d) (over-signed b (unsigned_abs z) (gcd (unsigned_abs z) d))
    ∙ *ℤ_comm (signed_integer b (unsigned_abs z / gcd (unsigned_abs z) d)) (pos d)
    ∙ pos-signed b d (unsigned_abs z / gcd (unsigned_abs z) d)
    ∙ ap (signed_integer b) (parts (gcd (unsigned_abs z) d) (unsigned_abs z / gcd (unsigned_abs z) d) (d / gcd (unsigned_abs z) d) d (unsigned_abs z) ed en)
    ∙ sym (signed-scale z (d / gcd (unsigned_abs z) d))
  where
    parts : (g n k d m : ℕ) → g * k ≡ d → g * n ≡ m → d * n ≡ m * k
    parts g n k d m e f = ap (λ t. t * n) (sym e) ∙ turned g n k ∙ ap (λ t. t * k) f
      where
        turned : (g n k : ℕ) → g * k * n ≡ g * n * k
        turned g n k = omega arith

pub lowest-positive : (z : ℤ) (d : ℕ) → 0 < d → 0 < (lowest z d).den
lowest-positive z d p = quotient_positive d _ (gcd-dvd_right (unsigned_abs z) d) p

-- fractions in lowest terms
pub lowest-reduced : (z : ℤ) (d : ℕ) → 0 < d → IsReduced (lowest z d)
lowest-reduced z d p = record {
  positive = lowest-positive z d p;
  coprime = ap (λ n. gcd n (d / gcd (unsigned_abs z) d)) (abs-over z (gcd (unsigned_abs z) d)) ∙ gcd-over (unsigned_abs z) d p;
}

pub reduced-same : (x : Fraction) → IsReduced x → lowest x.num x.den ≡ x
reduced-same x r =
    let b = int_lt x.num (pos 0) in
    λ i. record {
      num = (ap (over x.num) r.coprime ∙ ap (λ z. over z 1) (signed-self x.num) ∙ over-signed b (unsigned_abs x.num) 1 ∙ ap (signed_integer b) (div-one (unsigned_abs x.num)) ∙ sym (signed-self x.num)) i;
      den = (ap (λ t. x.den / t) r.coprime ∙ div-one x.den) i;
    }

pub lowest_unique : (x y : Fraction) → IsReduced x → IsReduced y → SameValue x y → x ≡ y
lowest_unique x y r q e = sym (reduced-same x r) ∙ lowest-cross x.num y.num x.den y.den r.positive q.positive e ∙ reduced-same y q
