-- Integers as differences of naturals: sums, products and the order of them.
use Rattle.std.proofs.Common.{◌≡◌, ℕ, zero, suc, ◌+◌, ◌-◌, ◌*◌, ◌≤◌, ◌<◌, ℤ, pos, negsuc, ◌+ℤ◌, ◌*ℤ◌, neg_ℤ, sym, ◌∙◌, subst, arith, rules, inl, inr, ◌⊎◌}
use Rattle.std.proofs.lemmas.Int.{ints}
use Rattle.std.proofs.lemmas.Bool.{cases_lt}

-- p - q
unfoldable pub diff : ℕ → ℕ → ℤ
diff p q = pos p +ℤ neg_ℤ (pos q)

pub diff-same : (p q r s : ℕ) → p + s ≡ r + q → diff p q ≡ diff r s
unfolding diff
diff-same p q r s e = omega (arith, ints)

pub diff-sum : (p q r s : ℕ) → diff p q +ℤ diff r s ≡ diff (p + r) (q + s)
unfolding diff
diff-sum p q r s = omega (arith, ints)

pub diff-neg : (p q : ℕ) → neg_ℤ (diff p q) ≡ diff q p
unfolding diff
diff-neg p q = omega (arith, ints)

pub diff-pos : (n : ℕ) → diff n 0 ≡ pos n
unfolding diff
diff-pos n = omega (arith, ints)

neg-pos : (k m : ℕ) → neg_ℤ (pos k) *ℤ pos m ≡ neg_ℤ (pos (k * m))
neg-pos zero zero = first_of (omega (arith, ints), search rules)
neg-pos zero (suc m) = first_of (omega (arith, ints), search rules)
neg-pos (suc k) zero = first_of (omega (arith, ints), search rules)
neg-pos (suc k) (suc m) = first_of (omega (arith, ints), search rules)

pos-neg : (k m : ℕ) → pos k *ℤ neg_ℤ (pos m) ≡ neg_ℤ (pos (k * m))
pos-neg zero zero = first_of (omega (arith, ints), search rules)
pos-neg zero (suc m) = first_of (omega (arith, ints), search rules)
pos-neg (suc k) zero = first_of (omega (arith, ints), search rules)
pos-neg (suc k) (suc m) = first_of (omega (arith, ints), search rules)

neg-neg : (k m : ℕ) → neg_ℤ (pos k) *ℤ neg_ℤ (pos m) ≡ pos (k * m)
neg-neg zero zero = first_of (omega (arith, ints), search rules)
neg-neg zero (suc m) = first_of (omega (arith, ints), search rules)
neg-neg (suc k) zero = first_of (omega (arith, ints), search rules)
neg-neg (suc k) (suc m) = first_of (omega (arith, ints), search rules)

up_to : (q k : ℕ) → diff (q + k) q ≡ pos k
unfolding diff
up_to q k = omega (arith, ints)

down_to : (q k : ℕ) → diff q (q + k) ≡ neg_ℤ (pos k)
unfolding diff
down_to q k = omega (arith, ints)

is_pos : (n p q : ℕ) → p ≡ q + n → pos n ≡ diff p q
unfolding diff
is_pos n p q e = omega (arith, ints)

is_neg : (n p q : ℕ) → q ≡ p + n → neg_ℤ (pos n) ≡ diff p q
unfolding diff
is_neg n p q e = omega (arith, ints)

pp : (q k s m : ℕ) → diff (q + k) q *ℤ diff (s + m) s ≡ diff ((q + k) * (s + m) + q * s) ((q + k) * s + q * (s + m))
pp q k s m = (λ i. up_to q k i *ℤ up_to s m i) ∙ is_pos (k * m) _ _ (omega arith)

pn : (q k r m : ℕ) → diff (q + k) q *ℤ diff r (r + m) ≡ diff ((q + k) * r + q * (r + m)) ((q + k) * (r + m) + q * r)
pn q k r m = (λ i. up_to q k i *ℤ down_to r m i) ∙ pos-neg k m ∙ is_neg (k * m) _ _ (omega arith)

np : (p k s m : ℕ) → diff p (p + k) *ℤ diff (s + m) s ≡ diff (p * (s + m) + (p + k) * s) (p * s + (p + k) * (s + m))
np p k s m = (λ i. down_to p k i *ℤ up_to s m i) ∙ neg-pos k m ∙ is_neg (k * m) _ _ (omega arith)

nn : (p k r m : ℕ) → diff p (p + k) *ℤ diff r (r + m) ≡ diff (p * r + (p + k) * (r + m)) (p * (r + m) + (p + k) * r)
nn p k r m = (λ i. down_to p k i *ℤ down_to r m i) ∙ neg-neg k m ∙ is_pos (k * m) _ _ (omega arith)

split : (p q : ℕ) → ((k : ℕ) × (p ≡ q + k)) ⊎ ((k : ℕ) × (q ≡ p + k))
split p q = by (cases_lt p q)
  where
    by : (p < q) ⊎ (q ≤ p) → ((k : ℕ) × (p ≡ q + k)) ⊎ ((k : ℕ) × (q ≡ p + k))
    by (inl h) = inr (q - p, omega arith)
    by (inr h) = inl (p - q, omega arith)

pub diff-product : (p q r s : ℕ) → diff p q *ℤ diff r s ≡ diff (p * r + q * s) (p * s + q * r)
diff-product p q r s = by (split p q) (split r s)
  where
    by : ((k : ℕ) × (p ≡ q + k)) ⊎ ((k : ℕ) × (q ≡ p + k)) → ((m : ℕ) × (r ≡ s + m)) ⊎ ((m : ℕ) × (s ≡ r + m)) → diff p q *ℤ diff r s ≡ diff (p * r + q * s) (p * s + q * r)
    by (inl a) (inl b) = subst (λ p. diff p q *ℤ diff r s ≡ diff (p * r + q * s) (p * s + q * r)) (sym a.1) (subst (λ r. diff (q + a.0) q *ℤ diff r s ≡ diff ((q + a.0) * r + q * s) ((q + a.0) * s + q * r)) (sym b.1) (pp q a.0 s b.0))
    by (inl a) (inr b) = subst (λ p. diff p q *ℤ diff r s ≡ diff (p * r + q * s) (p * s + q * r)) (sym a.1) (subst (λ s. diff (q + a.0) q *ℤ diff r s ≡ diff ((q + a.0) * r + q * s) ((q + a.0) * s + q * r)) (sym b.1) (pn q a.0 r b.0))
    by (inr a) (inl b) = subst (λ q. diff p q *ℤ diff r s ≡ diff (p * r + q * s) (p * s + q * r)) (sym a.1) (subst (λ r. diff p (p + a.0) *ℤ diff r s ≡ diff (p * r + (p + a.0) * s) (p * s + (p + a.0) * r)) (sym b.1) (np p a.0 s b.0))
    by (inr a) (inr b) = subst (λ q. diff p q *ℤ diff r s ≡ diff (p * r + q * s) (p * s + q * r)) (sym a.1) (subst (λ s. diff p (p + a.0) *ℤ diff r s ≡ diff (p * r + (p + a.0) * s) (p * s + (p + a.0) * r)) (sym b.1) (nn p a.0 r b.0))

-- each integer is one
pub record IsDiff (z : ℤ) : Type 0 where
  pub first : ℕ
  pub second : ℕ
  pub same : diff first second ≡ z

pub diff_of : (z : ℤ) → IsDiff z
unfolding diff
diff_of (pos n) = record { first = n; second = 0; same = omega (arith, ints) }
diff_of (negsuc n) = record { first = 0; second = suc n; same = omega (arith, ints) }
