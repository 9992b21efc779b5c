-- There are fewer edges than terms.
use Rattle.std.proofs.Common.{◌≡◌, ◌≢◌, ℕ, zero, suc, ◌+◌, ◌<◌, ◌≤◌, ◌==◌, Bool, true, false, List, [], ◌∷◌, length, if◌then◌else◌, refl, sym, ◌∙◌, ap, arith, inl, inr, ◌⊎◌}
use Rattle.std.proofs.lemmas.Bool.{cases_eq}
use Rattle.std.proofs.lemmas.Bool.Decides.{nat_tests}
use Rattle.explain_forest.specs.declared.types.Edge.{Edge}
use Rattle.explain_forest.specs.Forest.{root, Linked}
use Rattle.explain_forest.specs.Kept.{EdgesAreApart}
use Rattle.explain_forest.proofs.Roots.{root-low, root-again, root-under, root-elsewhere}

count_below : (ℕ → Bool) → ℕ → ℕ
count_below f zero = 0
count_below f (suc n) = (if f n then (suc zero) else zero) + count_below f n

count_below-same : (f g : ℕ → Bool) (n : ℕ) → ((i : ℕ) → i < n → f i ≡ g i) → count_below f n ≡ count_below g n
unfolding count_below
count_below-same f g zero h = refl
count_below-same f g (suc n) h = (λ j. (if h n (omega arith) j then (suc zero) else zero) + count_below-same f g n (λ i k. h i (omega arith)) j)

count_below-one : (f g : ℕ → Bool) (n k : ℕ) → ((i : ℕ) → i ≢ k → f i ≡ g i) → k < n → f k ≡ false → g k ≡ true → count_below f n + 1 ≡ count_below g n
unfolding count_below
count_below-one f g zero k h low p q = absurd (omega arith)
count_below-one f g (suc n) k h low p q = go (cases_eq k n) (count_below-same f g n) (count_below-one f g n k h)
  where
    go : (k ≡ n) ⊎ (k ≢ n) → (((i : ℕ) → i < n → f i ≡ g i) → count_below f n ≡ count_below g n) → (k < n → f k ≡ false → g k ≡ true → count_below f n + 1 ≡ count_below g n)
        → ((if f n then (suc zero) else zero) + count_below f n) + 1 ≡ (if g n then (suc zero) else zero) + count_below g n
    go (inl e) same rest =
        let fn : f n ≡ false = ap f (sym e) ∙ p in
        let gn : g n ≡ true = ap g (sym e) ∙ q in
        let t : count_below f n ≡ count_below g n = same (λ i l. h i (λ r. not_less l (r ∙ e))) in rw (fn, gn) (omega (arith, t))
      where
        not_less : {a b : ℕ} → a < b → a ≡ b → ⊥
        not_less l r = omega arith
    go (inr e) same rest = let t : count_below f n + 1 ≡ count_below g n = rest (omega arith) p q in let fg : f n ≡ g n = h n (λ r. e (sym r)) in rw (fg) (omega (arith, t))

count_below-some : (f : ℕ → Bool) (n k : ℕ) → k < n → f k ≡ true → 0 < count_below f n
unfolding count_below
count_below-some f zero k low p = absurd (omega arith)
count_below-some f (suc n) k low p = go (cases_eq k n) (count_below-some f n k)
  where
    go : (k ≡ n) ⊎ (k ≢ n) → (k < n → f k ≡ true → 0 < count_below f n) → 0 < (if f n then (suc zero) else zero) + count_below f n
    go (inl e) rest = let fn : f n ≡ true = ap f (sym e) ∙ p in rw fn (omega arith)
    go (inr e) rest = let t : 0 < count_below f n = rest (omega arith) p in omega (arith, t)

is_root : List Edge → ℕ → Bool
is_root es t = root es t == t

all_roots : (n : ℕ) → count_below (is_root []) n ≡ n
unfolding count_below is_root
all_roots zero = refl
all_roots (suc n) = let h = all_roots n in let t : (n == n) ≡ true = grind (arith, nat_tests) in rw t (omega (arith, h))

-- each edge takes one root away
roots-count : (n : ℕ) (es : List Edge) → EdgesAreApart n es → count_below (is_root es) n + length es ≡ n
unfolding is_root
roots-count n [] ok = omega (arith, all_roots n)
roots-count n (e ∷ es) ok =
    let h = roots-count n es ok.3 in
    let one : count_below (is_root (e ∷ es)) n + 1 ≡ count_below (is_root es) n = count_below-one (is_root (e ∷ es)) (is_root es) n (root es e.a.0) other (root-low n es e.a.0 ok.3 ok.0) gone there in omega (arith, h, one)
  where
    again : root es (root es e.a.0) ≡ root es e.a.0
    again = root-again n es e.a.0 ok.3

    there : is_root es (root es e.a.0) ≡ true
    there = grind (arith, nat_tests, again)

    gone : is_root (e ∷ es) (root es e.a.0) ≡ false
    gone = let u : root (e ∷ es) (root es e.a.0) ≡ root es e.b.0 = root-under e es (root es e.a.0) again in let d : root es e.b.0 ≢ root es e.a.0 = λ q. ok.2 (sym q) in rw u (grind (arith, nat_tests))

    other : (i : ℕ) → i ≢ root es e.a.0 → is_root (e ∷ es) i ≡ is_root es i
    other i d = go (cases_eq (root es i) (root es e.a.0))
      where
        go : (root es i ≡ root es e.a.0) ⊎ (root es i ≢ root es e.a.0) → is_root (e ∷ es) i ≡ is_root es i
        go (inr q) = ap (λ r. r == i) (root-elsewhere e es i q)
        go (inl q) =
            let not_own : root es i ≢ i = λ r. d (sym r ∙ q) in
            let not_b : root es e.b.0 ≢ i = λ r. not_own (ap (root es) (sym r) ∙ root-again n es e.b.0 ok.3 ∙ r) in
            let u : root (e ∷ es) i ≡ root es e.b.0 = root-under e es i q in
            let f : (root es e.b.0 == i) ≡ false = grind (arith, nat_tests) in
            let g : (root es i == i) ≡ false = grind (arith, nat_tests) in ap (λ r. r == i) u ∙ f ∙ sym g

-- some root is left
pub edges-fewer : (n : ℕ) (es : List Edge) → EdgesAreApart n es → 0 < n → length es < n
unfolding is_root
edges-fewer n es ok h =
    let c = roots-count n es ok in
    let again : root es (root es 0) ≡ root es 0 = root-again n es 0 ok in
    let s : 0 < count_below (is_root es) n = count_below-some (is_root es) n (root es 0) (root-low n es 0 ok h) (grind (arith, nat_tests, again)) in omega (arith, c, s)

-- there is room for one edge more
pub room-left : (n : ℕ) (e : Edge) (es : List Edge) → EdgesAreApart n es → e.a.0 < n → e.b.0 < n → (Linked es e.a.0 e.b.0 → ⊥) → length es + 1 < n
room-left n e es ok ha hb apart = let h = edges-fewer n (e ∷ es) (ha, hb, apart, ok) (omega arith) in omega (arith, h)

-- there are no more edges than terms
pub edges-few : (n : ℕ) (es : List Edge) → EdgesAreApart n es → length es ≤ n
edges-few n es ok = let c = roots-count n es ok in omega (arith, c)
