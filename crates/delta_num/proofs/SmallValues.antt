-- For each list of numbers there is a fraction above 0 up to which their values compare as they do.
use Rattle.std.proofs.Common.{◌≡◌, ◌≢◌, ℕ, zero, suc, ◌+◌, ◌*◌, ◌<◌, ◌≤◌, false, ℤ, pos, negsuc, ◌*ℤ◌, ◌<ℤ◌, unsigned_abs, List, [], ◌∷◌, Contains, refl, sym, ap, ◌∙◌, subst, arith, true≢false, Less, Equal, Greater}
use Rattle.std.specs.Ordering.{int_cmp, is_gt, ordering_then, ordering_reverse, MatchOrdering}
use Rattle.std.specs.declared.cmp.Ordering.{Ordering}
use Rattle.std.specs.Cmp.{int_cmp_is, int_ranks}
use Rattle.std.proofs.Math.Nat.{mul-pos}
use Rattle.std.proofs.lemmas.Int.{ints, unsigned_abs-mul}
use Rattle.spec_text.proofs.Members.{first, later, none, each_of}
use Rattle.spec_numbers.specs.Fractions.{Fraction, IsReduced, zero_fraction, minus, opposite, times, compare}
use Rattle.spec_numbers.proofs.Gcd.{gcd-comm}
use Rattle.spec_numbers.proofs.Signs.{signed-mul, zero-times}
use Rattle.spec_numbers.proofs.Integers.{times_whole}
use Rattle.spec_numbers.proofs.Lowest.{reduced-same}
use Rattle.spec_numbers.proofs.Field.{plus-opposite, opposite-reduced, minus-reduced}
use Rattle.spec_numbers.proofs.Order.{compare-lowest, compare-equal, compare-reversed, compare-trans, compare-plus}
use Rattle.ratio128.proofs.Bounded.{whole-reduced}
use Rattle.spec_tableaux.specs.Deltas.{Delta, AreReduced, IsPositive, AgreeUpTo, AllAgreeUpTo, delta_at, delta_compare}
use Rattle.delta_num.proofs.Orders.{order_reversed}
use Rattle.delta_num.proofs.Values.{values_compare, one_base, compare-itself}

-- integers by their sizes
below_size : (x : ℤ) (n : ℕ) → unsigned_abs x < n → x <ℤ pos n
below_size (pos k) n h = omega (arith, ints)
below_size (negsuc k) n h = omega (arith, ints)

is_size : (x : ℤ) → pos 0 <ℤ x → x ≡ pos (unsigned_abs x)
is_size (pos k) h = refl
is_size (negsuc k) h = absurd (omega (arith, ints))

size_above : (x : ℤ) → pos 0 <ℤ x → 0 < unsigned_abs x
size_above (pos k) h = omega (arith, ints)
size_above (negsuc k) h = absurd (omega (arith, ints))

product_size : (x : ℤ) (n : ℕ) → pos 0 <ℤ x → x *ℤ pos n ≡ pos (unsigned_abs x * n)
product_size x n h = ap (λ z. z *ℤ pos n) (is_size x h) ∙ signed-mul false false (unsigned_abs x) n

int_less : (x y : ℤ) → int_cmp x y ≡ Less → x <ℤ y
int_less x y e = subst (λ o. MatchOrdering o (x <ℤ y) (x ≡ y) (y <ℤ x)) e (int_ranks x y)

at_most : (a b : ℕ) → int_cmp (pos a) (pos b) ≢ Greater → a ≤ b
at_most a b h = by (int_cmp (pos a) (pos b)) (int_ranks (pos a) (pos b)) h
  where
    by : (r : Ordering) → MatchOrdering r (pos a <ℤ pos b) (pos a ≡ pos b) (pos b <ℤ pos a) → r ≢ Greater → a ≤ b
    by Less m k = omega (arith, ints)
    by Equal m k = omega (arith, ints)
    by Greater m k = absurd (k refl)

-- one over a whole number above 0
abbrev unit : ℕ → Fraction
unit n = record { num = pos 1; den = n }

unit_positive : (n : ℕ) → 0 < n → IsPositive (unit n)
unit_positive n p = record { reduced = record { positive = p; coprime = gcd-comm 1 n ∙ (whole-reduced (pos n)).coprime }; above = omega (arith, ints) }

-- k * eps is below d, where eps is at most 1 / (d.den * (the size of k.num + 1))
grown : (k v : ℕ) → 0 < k → v ≤ k * v
grown zero v p = absurd (omega arith)
grown (suc k) v p = omega arith

sizes_below : (n u q v m p : ℕ) → 0 < u → 0 < q → 0 < p → 0 < m → u * (q * suc n) ≤ v → n * u * q < p * (m * v)
sizes_below n u q v m p u0 q0 p0 m0 h =
    let whole : u * (q * suc n) ≡ n * u * q + u * q = omega arith in
    let more : 0 < u * q = mul-pos u0 q0 in
    let once : v ≤ m * v = grown m v m0 in
    let twice : m * v ≤ p * (m * v) = grown p (m * v) p0 in
    omega arith

size_within : (eps : Fraction) (n : ℕ) → IsPositive eps → compare eps (unit n) ≢ Greater → unsigned_abs eps.num * n ≤ eps.den
unfolding compare
size_within eps n p upto =
    at_most (unsigned_abs eps.num * n) eps.den
    (λ e. upto ((λ i. int_cmp (product_size eps.num n p.above i) (one_times eps.den i)) ∙ e))
  where
    one_times : (v : ℕ) → pos 1 *ℤ pos v ≡ pos v
    one_times v = signed-mul false false 1 v ∙ ap pos (omega arith)

small_product : (k d eps : Fraction) → IsReduced k → IsReduced d → IsPositive eps → pos 0 <ℤ d.num
    → compare eps (unit (d.den * suc (unsigned_abs k.num))) ≢ Greater → compare (times k eps) d ≡ Less
unfolding times
small_product k d eps rk rd p above upto =
    ap (compare (times k eps)) (sym (reduced-same d rd))
    ∙ compare-lowest (k.num *ℤ eps.num) d.num (k.den * eps.den) d.den (mul-pos rk.positive p.reduced.positive) rd.positive
    ∙ sym (int_cmp_is ((k.num *ℤ eps.num) *ℤ pos d.den) (d.num *ℤ pos (k.den * eps.den)) Less
    (subst (λ w. ((k.num *ℤ eps.num) *ℤ pos d.den) <ℤ w) (sym (product_size d.num (k.den * eps.den) above))
    (below_size ((k.num *ℤ eps.num) *ℤ pos d.den) (unsigned_abs d.num * (k.den * eps.den)) (subst (λ s. s < unsigned_abs d.num * (k.den * eps.den)) (sym size) small))))
  where
    size : unsigned_abs ((k.num *ℤ eps.num) *ℤ pos d.den) ≡ unsigned_abs k.num * unsigned_abs eps.num * d.den
    size = unsigned_abs-mul (k.num *ℤ eps.num) (pos d.den) ∙ ap (λ s. s * d.den) (unsigned_abs-mul k.num eps.num)

    small : unsigned_abs k.num * unsigned_abs eps.num * d.den < unsigned_abs d.num * (k.den * eps.den)
    small = sizes_below (unsigned_abs k.num) (unsigned_abs eps.num) d.den eps.den k.den (unsigned_abs d.num)
        (size_above eps.num p.above) rd.positive (size_above d.num above) rk.positive (size_within eps _ p upto)

num_above : (x : Fraction) → compare zero_fraction x ≡ Less → pos 0 <ℤ x.num
unfolding compare
num_above x h = int_less (pos 0) x.num ((λ i. int_cmp (sym (zero-times (pos x.den)) i) (sym (times_whole x.num) i)) ∙ h)

difference_above : (a b : Fraction) → IsReduced a → IsReduced b → compare a b ≡ Less → pos 0 <ℤ (minus b a).num
difference_above a b ra rb e =
    num_above (minus b a)
    (ap (λ z. compare z (minus b a)) (sym (plus-opposite a ra))
    ∙ compare-plus a b (opposite a) ra.positive rb.positive (opposite-reduced a ra).positive ∙ e)

-- two numbers
lower : (x y : Delta) → AreReduced x → AreReduced y → compare x.base y.base ≡ Less → (e : Fraction) × IsPositive e × AgreeUpTo e x y
unfolding delta_compare
lower x y r q h =
    let k = minus x.tilt y.tilt in let d = minus y.base x.base in
    let rd = minus-reduced y.base x.base q.base_reduced r.base_reduced in (
      unit (d.den * suc (unsigned_abs k.num)),
      unit_positive (d.den * suc (unsigned_abs k.num)) (mul-pos rd.positive (omega arith)),
      λ eps p upto.
          values_compare x y eps r q p.reduced
          ∙ small_product k d eps (minus-reduced x.tilt y.tilt r.tilt_reduced q.tilt_reduced) rd p (difference_above x.base y.base r.base_reduced q.base_reduced h) upto
          ∙ ap (λ o. ordering_then o (compare x.tilt y.tilt)) (sym h),
    )

two : (x y : Delta) → AreReduced x → AreReduced y → (e : Fraction) × IsPositive e × AgreeUpTo e x y
two x y r q = by (compare x.base y.base) refl
  where
    turned : (e : Fraction) → AgreeUpTo e y x → AgreeUpTo e x y
    turned e h eps p upto = compare-reversed (delta_at x eps) (delta_at y eps) ∙ ap ordering_reverse (h eps p upto) ∙ sym (order_reversed x y)

    by : (o : Ordering) → compare x.base y.base ≡ o → (e : Fraction) × IsPositive e × AgreeUpTo e x y
    by Less h = lower x y r q h
    by Equal h = (unit 1, unit_positive 1 (omega arith), λ eps p upto. one_base x y eps r q p (compare-equal x.base y.base r.base_reduced q.base_reduced h))
    by Greater h = let l = lower y x q r (compare-reversed y.base x.base ∙ ap ordering_reverse h) in (l.0, l.1, turned l.0 l.2)

-- lists: the least of the fractions of each two
below_or_at : (a b c : Fraction) → IsReduced a → IsReduced b → IsReduced c → compare a b ≢ Greater → compare b c ≢ Greater → compare a c ≢ Greater
below_or_at a b c ra rb rc = by (compare a b) (compare b c) refl refl
  where
    by : (m n : Ordering) → compare a b ≡ m → compare b c ≡ n → m ≢ Greater → n ≢ Greater → compare a c ≢ Greater
    by Greater n e f h k = absurd (h refl)
    by Equal n e f h k = λ t. k (sym f ∙ ap (λ z. compare z c) (sym (compare-equal a b ra rb e)) ∙ t)
    by Less Less e f h k = λ t. true≢false (ap is_gt (sym t ∙ compare-trans a b c ra.positive rb.positive rc.positive e f))
    by Less Equal e f h k = λ t. h (sym e ∙ ap (compare a) (compare-equal b c rb rc f) ∙ t)
    by Less Greater e f h k = absurd (k refl)

smaller : (a b : Fraction) → IsPositive a → IsPositive b → (c : Fraction) × IsPositive c × (compare c a ≢ Greater) × (compare c b ≢ Greater)
smaller a b p q = by (compare a b) refl
  where
    itself : (x : Fraction) → compare x x ≢ Greater
    itself x e = true≢false (ap is_gt (sym e ∙ compare-itself x))

    by : (o : Ordering) → compare a b ≡ o → (c : Fraction) × IsPositive c × (compare c a ≢ Greater) × (compare c b ≢ Greater)
    by Less e = (a, p, itself a, λ t. true≢false (ap is_gt (sym t ∙ e)))
    by Equal e = (a, p, itself a, λ t. true≢false (ap is_gt (sym t ∙ e)))
    by Greater e = (b, q, λ t. true≢false (ap is_gt (sym t ∙ compare-reversed b a ∙ ap ordering_reverse e)), itself b)

-- one fraction for all, where what is so up to a fraction is so up to each smaller one
for_each : {A : Type 0} (P : A → Fraction → Type 0) → ((x : A) (c e : Fraction) → IsPositive c → IsPositive e → compare c e ≢ Greater → P x e → P x c)
    → (xs : List A) → ((x : A) → Contains xs x → (e : Fraction) × IsPositive e × P x e)
    → (e : Fraction) × IsPositive e × ((x : A) → Contains xs x → P x e)
for_each P less [] each = (unit 1, unit_positive 1 (omega arith), λ x c. absurd (none x c))
for_each P less (x ∷ xs) each =
    let others = for_each P less xs (λ y c. each y (later x xs y c)) in
    let front = each x (first x xs) in
    let least = smaller front.0 others.0 front.1 others.1 in (
      least.0,
      least.1,
      each_of (λ y. P y least.0) x xs (less x least.0 front.0 least.1 front.1 least.2 front.2) (λ y c. less y least.0 others.0 least.1 others.1 least.3 (others.2 y c)),
    )

agree_below : (x y : Delta) (c e : Fraction) → IsPositive c → IsPositive e → compare c e ≢ Greater → AgreeUpTo e x y → AgreeUpTo c x y
agree_below x y c e p q upto h eps r small = h eps r (below_or_at eps c e r.reduced p.reduced q.reduced small upto)

pub all_agree : (xs : List Delta) → ((x : Delta) → Contains xs x → AreReduced x) → (e : Fraction) × IsPositive e × AllAgreeUpTo e xs
all_agree xs r =
    let all = for_each (λ x e. (y : Delta) → Contains xs y → AgreeUpTo e x y)
    (λ x c e p q upto h y there. agree_below x y c e p q upto (h y there)) xs
    (λ x here. for_each (λ y e. AgreeUpTo e x y) (agree_below x) xs (λ y there. two x y (r x here) (r y there))) in
    (all.0, all.1, λ x y here there. all.2 x here y there)
