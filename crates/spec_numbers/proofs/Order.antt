-- The order of fractions.
use Rattle.std.proofs.Common.{◌≡◌, ℕ, ◌+◌, ◌*◌, ◌<◌, ℤ, pos, negsuc, ◌+ℤ◌, ◌*ℤ◌, ◌<ℤ◌, unsigned_abs, sym, ◌∙◌, ap, subst, arith, Less, Equal, Greater}
use Rattle.std.specs.Ordering.{int_cmp, ordering_reverse, MatchOrdering}
use Rattle.std.specs.declared.cmp.Ordering.{Ordering}
use Rattle.std.specs.Cmp.{int_cmp_is, int_ranks}
use Rattle.std.proofs.lemmas.Cmp.{int_cmp_total}
use Rattle.std.proofs.Math.Nat.{mul-pos, mul_comm, mul-lt-mul_of_pos_left}
use Rattle.std.proofs.lemmas.Int.{ints}
use Rattle.spec_numbers.specs.Fractions.{Fraction, gcd, lowest, plus, times, compare, IsReduced}
use Rattle.spec_numbers.proofs.Gcd.{gcd_positive}
use Rattle.spec_numbers.proofs.Differences.{diff, diff-same, diff-sum, diff-product, diff-pos}
use Rattle.spec_numbers.proofs.Integers.{by_one, by_two}
use Rattle.spec_numbers.proofs.Lowest.{num_back, den_back, lowest_unique}

pub diff-lt : (p q r s : ℕ) → p + s < r + q → diff p q <ℤ diff r s
unfolding diff
diff-lt p q r s h = omega (arith, ints)

pub lt-diff : (p q r s : ℕ) → diff p q <ℤ diff r s → p + s < r + q
unfolding diff
lt-diff p q r s h = omega (arith, ints)

-- a factor above 0 keeps the order
scale-lt : (k : ℕ) (u v : ℤ) → 0 < k → u <ℤ v → (pos k *ℤ u) <ℤ (pos k *ℤ v)
scale-lt k u v kp = by_two (λ u v. u <ℤ v → (pos k *ℤ u) <ℤ (pos k *ℤ v)) (λ a b c d h. scaled a b c d h) u v
  where
    scaled : (a b c d : ℕ) → diff a b <ℤ diff c d → (pos k *ℤ diff a b) <ℤ (pos k *ℤ diff c d)
    scaled a b c d h =
        subst (λ K. (K *ℤ diff a b) <ℤ (K *ℤ diff c d)) (diff-pos k)
        (simp diff-product (diff-lt _ _ _ _ (omega (arith, mul-lt-mul_of_pos_left (lt-diff a b c d h) kp))))

pub cmp-scale : (k : ℕ) (u v : ℤ) → 0 < k → int_cmp (pos k *ℤ u) (pos k *ℤ v) ≡ int_cmp u v
cmp-scale k u v kp = sym (int_cmp_is (pos k *ℤ u) (pos k *ℤ v) (int_cmp u v) (by (int_cmp u v) (int_ranks u v)))
  where
    by : (r : Ordering) → MatchOrdering r (u <ℤ v) (u ≡ v) (v <ℤ u)
        → MatchOrdering r ((pos k *ℤ u) <ℤ (pos k *ℤ v)) ((pos k *ℤ u) ≡ (pos k *ℤ v)) ((pos k *ℤ v) <ℤ (pos k *ℤ u))
    by Less h = scale-lt k u v kp h
    by Equal h = ap (λ z. pos k *ℤ z) h
    by Greater h = scale-lt k v u kp h

-- so does a number that is added
pub cmp-shift : (c u v : ℤ) → int_cmp (u +ℤ c) (v +ℤ c) ≡ int_cmp u v
cmp-shift c u v = sym (int_cmp_is (u +ℤ c) (v +ℤ c) (int_cmp u v) (by (int_cmp u v) (int_ranks u v)))
  where
    more : (u v : ℤ) → u <ℤ v → (u +ℤ c) <ℤ (v +ℤ c)
    more u v h = omega (arith, ints)

    by : (r : Ordering) → MatchOrdering r (u <ℤ v) (u ≡ v) (v <ℤ u) → MatchOrdering r ((u +ℤ c) <ℤ (v +ℤ c)) ((u +ℤ c) ≡ (v +ℤ c)) ((v +ℤ c) <ℤ (u +ℤ c))
    by Less h = more u v h
    by Equal h = ap (λ z. z +ℤ c) h
    by Greater h = more v u h

cross : (g h q : ℕ) (u : ℤ) → pos (g * h) *ℤ (u *ℤ pos q) ≡ (pos g *ℤ u) *ℤ pos (h * q)
cross g h q u = by_one (λ u. pos (g * h) *ℤ (u *ℤ pos q) ≡ (pos g *ℤ u) *ℤ pos (h * q))
    (λ a b. simp (← diff-pos) (simp diff-product (diff-same _ _ _ _ (omega arith)))) u

-- the order of lowest terms is that of what they are made of
pub compare-lowest : (z w : ℤ) (d e : ℕ) → 0 < d → 0 < e → compare (lowest z d) (lowest w e) ≡ int_cmp (z *ℤ pos e) (w *ℤ pos d)
unfolding compare
compare-lowest z w d e dp ep =
    let x = lowest z d in let y = lowest w e in
    let g = gcd (unsigned_abs z) d in let h = gcd (unsigned_abs w) e in
    sym (cmp-scale (g * h) (x.num *ℤ pos y.den) (y.num *ℤ pos x.den) (mul-pos (gcd_positive (unsigned_abs z) d dp) (gcd_positive (unsigned_abs w) e ep)))
    ∙ (λ i. int_cmp (left z d w e i) (right z d w e i))
  where
    left : (z : ℤ) (d : ℕ) (w : ℤ) (e : ℕ) → pos (gcd (unsigned_abs z) d * gcd (unsigned_abs w) e) *ℤ ((lowest z d).num *ℤ pos (lowest w e).den) ≡ z *ℤ pos e
    left z d w e = cross (gcd (unsigned_abs z) d) (gcd (unsigned_abs w) e) (lowest w e).den (lowest z d).num ∙ (λ i. num_back z d i *ℤ pos (den_back w e i))

    right : (z : ℤ) (d : ℕ) (w : ℤ) (e : ℕ) → pos (gcd (unsigned_abs z) d * gcd (unsigned_abs w) e) *ℤ ((lowest w e).num *ℤ pos (lowest z d).den) ≡ w *ℤ pos d
    right z d w e = ap (λ k. pos k *ℤ ((lowest w e).num *ℤ pos (lowest z d).den)) (mul_comm (gcd (unsigned_abs z) d) (gcd (unsigned_abs w) e)) ∙ left w e z d

pub compare-equal : (x y : Fraction) → IsReduced x → IsReduced y → compare x y ≡ Equal → x ≡ y
unfolding compare
compare-equal x y r q e =
    lowest_unique x y r q (subst (λ o. MatchOrdering o ((x.num *ℤ pos y.den) <ℤ (y.num *ℤ pos x.den)) ((x.num *ℤ pos y.den) ≡ (y.num *ℤ pos x.den)) ((y.num *ℤ pos x.den) <ℤ (x.num *ℤ pos y.den)))
    e (int_ranks (x.num *ℤ pos y.den) (y.num *ℤ pos x.den)))

pub compare-reversed : (x y : Fraction) → compare x y ≡ ordering_reverse (compare y x)
unfolding compare
compare-reversed x y = int_cmp_total.antisymm (x.num *ℤ pos y.den) (y.num *ℤ pos x.den)

turned : (k q : ℕ) (u : ℤ) → pos k *ℤ (u *ℤ pos q) ≡ pos q *ℤ (u *ℤ pos k)
turned k q u = by_one (λ u. pos k *ℤ (u *ℤ pos q) ≡ pos q *ℤ (u *ℤ pos k))
    (λ a b. simp (← diff-pos) (simp diff-product (diff-same _ _ _ _ (omega arith)))) u

-- one comparison as the other two, each scaled by the third denominator
pub compare-trans : (x y z : Fraction) → 0 < x.den → 0 < y.den → 0 < z.den → compare x y ≡ Less → compare y z ≡ Less → compare x z ≡ Less
unfolding compare
compare-trans x y z xp yp zp h k =
    sym (cmp-scale y.den (x.num *ℤ pos z.den) (z.num *ℤ pos x.den) yp)
    ∙ int_cmp_total.trans (pos y.den *ℤ (x.num *ℤ pos z.den)) (pos x.den *ℤ (y.num *ℤ pos z.den)) (pos y.den *ℤ (z.num *ℤ pos x.den)) first second
  where
    first : int_cmp (pos y.den *ℤ (x.num *ℤ pos z.den)) (pos x.den *ℤ (y.num *ℤ pos z.den)) ≡ Less
    first = (λ i. int_cmp (turned y.den z.den x.num i) (turned x.den z.den y.num i)) ∙ cmp-scale z.den (x.num *ℤ pos y.den) (y.num *ℤ pos x.den) zp ∙ h

    second : int_cmp (pos x.den *ℤ (y.num *ℤ pos z.den)) (pos y.den *ℤ (z.num *ℤ pos x.den)) ≡ Less
    second = ap (int_cmp (pos x.den *ℤ (y.num *ℤ pos z.den))) (turned y.den x.den z.num) ∙ cmp-scale x.den (y.num *ℤ pos z.den) (z.num *ℤ pos y.den) xp ∙ k

sum_spread : (n m : ℤ) (d e f : ℕ) → (n *ℤ pos f +ℤ m *ℤ pos d) *ℤ pos (e * f) ≡ pos (f * f) *ℤ (n *ℤ pos e) +ℤ m *ℤ pos (d * e * f)
sum_spread n m d e f = by_two (λ n m. (n *ℤ pos f +ℤ m *ℤ pos d) *ℤ pos (e * f) ≡ pos (f * f) *ℤ (n *ℤ pos e) +ℤ m *ℤ pos (d * e * f))
    (λ a b c g. simp (← diff-pos) (simp (diff-product, diff-sum) (diff-same _ _ _ _ (omega arith)))) n m

pub compare-plus : (x y z : Fraction) → 0 < x.den → 0 < y.den → 0 < z.den → compare (plus x z) (plus y z) ≡ compare x y
unfolding compare plus
compare-plus x y z xp yp zp =
    compare-lowest (x.num *ℤ pos z.den +ℤ z.num *ℤ pos x.den) (y.num *ℤ pos z.den +ℤ z.num *ℤ pos y.den) (x.den * z.den) (y.den * z.den) (mul-pos xp zp) (mul-pos yp zp)
    ∙ (λ i. int_cmp (sum_spread x.num z.num x.den y.den z.den i) (second i))
    ∙ cmp-shift (z.num *ℤ pos (x.den * y.den * z.den)) (pos (z.den * z.den) *ℤ (x.num *ℤ pos y.den)) (pos (z.den * z.den) *ℤ (y.num *ℤ pos x.den))
    ∙ cmp-scale (z.den * z.den) (x.num *ℤ pos y.den) (y.num *ℤ pos x.den) (mul-pos zp zp)
  where
    second : (y.num *ℤ pos z.den +ℤ z.num *ℤ pos y.den) *ℤ pos (x.den * z.den) ≡ pos (z.den * z.den) *ℤ (y.num *ℤ pos x.den) +ℤ z.num *ℤ pos (x.den * y.den * z.den)
    second = sum_spread y.num z.num y.den x.den z.den ∙ ap (λ k. pos (z.den * z.den) *ℤ (y.num *ℤ pos x.den) +ℤ z.num *ℤ pos (k * z.den)) (mul_comm y.den x.den)

product_spread : (u : ℤ) (n e f : ℕ) → (u *ℤ pos n) *ℤ pos (e * f) ≡ pos (n * f) *ℤ (u *ℤ pos e)
product_spread u n e f = by_one (λ u. (u *ℤ pos n) *ℤ pos (e * f) ≡ pos (n * f) *ℤ (u *ℤ pos e))
    (λ a b. simp (← diff-pos) (simp diff-product (diff-same _ _ _ _ (omega arith)))) u

pub compare-times : (x y z : Fraction) → 0 < x.den → 0 < y.den → 0 < z.den → pos 0 <ℤ z.num → compare (times x z) (times y z) ≡ compare x y
unfolding compare times
compare-times x y z xp yp zp p =
    compare-lowest (x.num *ℤ z.num) (y.num *ℤ z.num) (x.den * z.den) (y.den * z.den) (mul-pos xp zp) (mul-pos yp zp) ∙ by z.num p
  where
    above : (n : ℕ) → pos 0 <ℤ pos n → 0 < n
    above n h = omega (arith, ints)

    by : (c : ℤ) → pos 0 <ℤ c → int_cmp ((x.num *ℤ c) *ℤ pos (y.den * z.den)) ((y.num *ℤ c) *ℤ pos (x.den * z.den)) ≡ int_cmp (x.num *ℤ pos y.den) (y.num *ℤ pos x.den)
    by (pos n) h = (λ i. int_cmp (product_spread x.num n y.den z.den i) (product_spread y.num n x.den z.den i)) ∙ cmp-scale (n * z.den) (x.num *ℤ pos y.den) (y.num *ℤ pos x.den) (mul-pos (above n h) zp)
    by (negsuc n) h = absurd (omega (arith, ints))
