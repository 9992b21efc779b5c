-- Roots of terms, and the arrays by which the code finds them.
use Rattle.std.proofs.Common.{◌≡◌, ◌≢◌, ℕ, zero, suc, ◌<◌, ◌≤◌, ◌==◌, List, [], ◌∷◌, ◌++◌, ◌+◌, length, replicate, slice_index, if◌then◌else◌, refl, sym, ◌∙◌, ap, subst, arith, inl, inr, ◌⊎◌, length-set}
use Rattle.std.specs.List.{range_with_len}
use Rattle.std.proofs.lemmas.List.{length-replicate, get_or-replicate}
use Rattle.std.proofs.lemmas.List.FromFn.{length-range_with_len}
use Rattle.std.proofs.lemmas.Grind.{common_steps}
use Rattle.std.proofs.lemmas.Bool.{cases_eq}
use Rattle.std.proofs.lemmas.Bool.Decides.{nat_tests}
use Rattle.term_core.proofs.Numbers.{range-at}
use Rattle.explain_forest.specs.declared.types.Edge.{Edge}
use Rattle.explain_forest.specs.Forest.{root, Linked}
use Rattle.explain_forest.specs.Kept.{EdgesAreApart, parents_by, stamps_by, height}
use Rattle.explain_forest.specs.Telling.{}

-- one more edge changes the root of those that have its first term's
pub root-under : (e : Edge) (es : List Edge) (t : ℕ) → root es t ≡ root es e.a.0 → root (e ∷ es) t ≡ root es e.b.0
root-under e es t h = grind (arith, nat_tests)

pub root-elsewhere : (e : Edge) (es : List Edge) (t : ℕ) → root es t ≢ root es e.a.0 → root (e ∷ es) t ≡ root es t
root-elsewhere e es t h = grind (arith, nat_tests)

pub root-low : (n : ℕ) (es : List Edge) (t : ℕ) → EdgesAreApart n es → t < n → root es t < n
root-low n [] t ok h = h
root-low n (e ∷ es) t ok h = go (cases_eq (root es t) (root es e.a.0)) (λ s. root-low n es s ok.3)
  where
    go : (root es t ≡ root es e.a.0) ⊎ (root es t ≢ root es e.a.0) → ((s : ℕ) → s < n → root es s < n) → root (e ∷ es) t < n
    go (inl p) ih = subst (λ r. r < n) (sym (root-under e es t p)) (ih e.b.0 ok.1)
    go (inr p) ih = subst (λ r. r < n) (sym (root-elsewhere e es t p)) (ih t h)

-- what has one root keeps one
pub linked-more : (e : Edge) (es : List Edge) (x y : ℕ) → Linked es x y → Linked (e ∷ es) x y
linked-more e es x y h = λ i. if h i == root es e.a.0 then root es e.b.0 else h i

pub root-again : (n : ℕ) (es : List Edge) (t : ℕ) → EdgesAreApart n es → root es (root es t) ≡ root es t
root-again n [] t ok = refl
root-again n (e ∷ es) t ok = go (cases_eq (root es t) (root es e.a.0)) (λ s. root-again n es s ok.3)
  where
    go : (root es t ≡ root es e.a.0) ⊎ (root es t ≢ root es e.a.0) → ((s : ℕ) → root es (root es s) ≡ root es s) → root (e ∷ es) (root (e ∷ es) t) ≡ root (e ∷ es) t
    go (inl p) ih = ap (root (e ∷ es)) (root-under e es t p) ∙ root-elsewhere e es (root es e.b.0) (λ q. ok.2 (sym (sym (ih e.b.0) ∙ q))) ∙ ih e.b.0 ∙ sym (root-under e es t p)
    go (inr p) ih = ap (root (e ∷ es)) (root-elsewhere e es t p) ∙ root-elsewhere e es (root es t) (λ q. p (sym (ih t) ∙ q)) ∙ ih t ∙ sym (root-elsewhere e es t p)

-- one number more
pub range-next : (a n : ℕ) → range_with_len a (suc n) ≡ range_with_len a n ++ (a + n) ∷ []
range-next a zero = ap (λ k. k ∷ []) (omega arith)
range-next a (suc n) = ap (λ l. a ∷ l) (range-next (a + 1) n ∙ ap (λ k. range_with_len (a + 1) n ++ k ∷ []) (omega arith))

blank-at : (n t : ℕ) → t < n → slice_index (replicate n 0) t ≡ 0
blank-at n t h = get_or-replicate n t 0 0 h

pub length-parents : (n : ℕ) (es : List Edge) → length (parents_by n es) ≡ n
length-parents n [] = length-range_with_len 0 n
length-parents n (e ∷ es) = length-set _ _ _ ∙ length-parents n es

pub length-stamps : (n : ℕ) (es : List Edge) → length (stamps_by n es) ≡ n
length-stamps n [] = length-replicate n 0
length-stamps n (e ∷ es) = length-set _ _ _ ∙ length-stamps n es

module _ (n : ℕ) (e : Edge) (es : List Edge) (ok : EdgesAreApart n (e ∷ es)) where
  top_low : root es e.a.0 < n
  top_low = root-low n es e.a.0 ok.3 ok.0

  pub stamp-top : slice_index (stamps_by n (e ∷ es)) (root es e.a.0) ≡ suc (length es)
  stamp-top = let h = length-stamps n es in let k = top_low in grind (arith, common_steps)

  pub stamp-other : (t : ℕ) → t ≢ root es e.a.0 → slice_index (stamps_by n (e ∷ es)) t ≡ slice_index (stamps_by n es) t
  stamp-other t h = grind (arith, common_steps)

  pub parent-top : slice_index (parents_by n (e ∷ es)) (root es e.a.0) ≡ root es e.b.0
  parent-top = let h = length-parents n es in let k = top_low in grind (arith, common_steps)

  pub parent-other : (t : ℕ) → t ≢ root es e.a.0 → slice_index (parents_by n (e ∷ es)) t ≡ slice_index (parents_by n es) t
  parent-other t h = grind (arith, common_steps)

  -- what is above is no term that was there in its place
  pub above_top : root es e.b.0 ≢ root es e.a.0
  above_top h = ok.2 (sym h)

pub stamp-le : (n : ℕ) (es : List Edge) (t : ℕ) → EdgesAreApart n es → t < n → slice_index (stamps_by n es) t ≤ length es
stamp-le n [] t ok h = let k = blank-at n t h in omega arith
stamp-le n (e ∷ es) t ok h = go (cases_eq t (root es e.a.0)) (stamp-le n es t ok.3 h)
  where
    go : (t ≡ root es e.a.0) ⊎ (t ≢ root es e.a.0) → slice_index (stamps_by n es) t ≤ length es → slice_index (stamps_by n (e ∷ es)) t ≤ suc (length es)
    go (inl p) r = let k = stamp-top n e es ok in subst (λ s. slice_index (stamps_by n (e ∷ es)) s ≤ suc (length es)) (sym p) (omega arith)
    go (inr p) r = let k = stamp-other n e es ok t p in omega arith

-- a term over which no edge is stands for itself, and no other does
pub stamp-root : (n : ℕ) (es : List Edge) (t : ℕ) → EdgesAreApart n es → t < n → slice_index (stamps_by n es) t ≡ 0 → root es t ≡ t
stamp-root n [] t ok h z = refl
stamp-root n (e ∷ es) t ok h z = go (cases_eq t (root es e.a.0)) (stamp-root n es t ok.3 h)
  where
    go : (t ≡ root es e.a.0) ⊎ (t ≢ root es e.a.0) → (slice_index (stamps_by n es) t ≡ 0 → root es t ≡ t) → root (e ∷ es) t ≡ t
    go (inl p) ih = let k = stamp-top n e es ok in absurd (zero_suc (sym z ∙ ap (slice_index (stamps_by n (e ∷ es))) p ∙ k))
      where
        zero_suc : 0 ≡ suc (length es) → ⊥
        zero_suc q = omega arith
    go (inr p) ih = let r = ih (sym (stamp-other n e es ok t p) ∙ z) in root-elsewhere e es t (λ q. p (sym r ∙ q)) ∙ r

pub root-stamp : (n : ℕ) (es : List Edge) (t : ℕ) → EdgesAreApart n es → t < n → root es t ≡ t → slice_index (stamps_by n es) t ≡ 0
root-stamp n [] t ok h z = blank-at n t h
root-stamp n (e ∷ es) t ok h z = go (cases_eq t (root es e.a.0)) (cases_eq (root es t) (root es e.a.0)) (root-stamp n es t ok.3 h)
  where
    go : (t ≡ root es e.a.0) ⊎ (t ≢ root es e.a.0) → (root es t ≡ root es e.a.0) ⊎ (root es t ≢ root es e.a.0) → (root es t ≡ t → slice_index (stamps_by n es) t ≡ 0) → slice_index (stamps_by n (e ∷ es)) t ≡ 0
    go (inl p) (inl q) ih = absurd (above_top n e es ok (sym (root-under e es t q) ∙ z ∙ p))
    go (inl p) (inr q) ih = absurd (q (ap (root es) p ∙ root-again n es e.a.0 ok.3))
    go (inr p) (inl q) ih = stamp-other n e es ok t p ∙ ih (ap (root es) b_is ∙ root-again n es e.b.0 ok.3 ∙ sym b_is)
      where
        b_is : t ≡ root es e.b.0
        b_is = sym z ∙ root-under e es t q
    go (inr p) (inr q) ih = stamp-other n e es ok t p ∙ ih (sym (root-elsewhere e es t q) ∙ z)

pub root-parent : (n : ℕ) (es : List Edge) (t : ℕ) → EdgesAreApart n es → t < n → root es t ≡ t → slice_index (parents_by n es) t ≡ t
root-parent n [] t ok h z = range-at n t h
root-parent n (e ∷ es) t ok h z = go (cases_eq t (root es e.a.0)) (cases_eq (root es t) (root es e.a.0)) (root-parent n es t ok.3 h)
  where
    go : (t ≡ root es e.a.0) ⊎ (t ≢ root es e.a.0) → (root es t ≡ root es e.a.0) ⊎ (root es t ≢ root es e.a.0) → (root es t ≡ t → slice_index (parents_by n es) t ≡ t) → slice_index (parents_by n (e ∷ es)) t ≡ t
    go (inl p) (inl q) ih = absurd (above_top n e es ok (sym (root-under e es t q) ∙ z ∙ p))
    go (inl p) (inr q) ih = absurd (q (ap (root es) p ∙ root-again n es e.a.0 ok.3))
    go (inr p) (inl q) ih = parent-other n e es ok t p ∙ ih (ap (root es) b_is ∙ root-again n es e.b.0 ok.3 ∙ sym b_is)
      where
        b_is : t ≡ root es e.b.0
        b_is = sym z ∙ root-under e es t q
    go (inr p) (inr q) ih = parent-other n e es ok t p ∙ ih (sym (root-elsewhere e es t q) ∙ z)

pub parent-low : (n : ℕ) (es : List Edge) (t : ℕ) → EdgesAreApart n es → t < n → slice_index (parents_by n es) t < n
parent-low n [] t ok h = let k = range-at n t h in omega arith
parent-low n (e ∷ es) t ok h = go (cases_eq t (root es e.a.0)) (parent-low n es t ok.3 h)
  where
    go : (t ≡ root es e.a.0) ⊎ (t ≢ root es e.a.0) → slice_index (parents_by n es) t < n → slice_index (parents_by n (e ∷ es)) t < n
    go (inl p) ih = subst (λ s. slice_index (parents_by n (e ∷ es)) s < n) (sym p) (subst (λ r. r < n) (sym (parent-top n e es ok)) (root-low n es e.b.0 ok.3 ok.1))
    go (inr p) ih = subst (λ r. r < n) (sym (parent-other n e es ok t p)) ih

-- the term above has the same root
pub parent-linked : (n : ℕ) (es : List Edge) (t : ℕ) → EdgesAreApart n es → t < n → Linked es (slice_index (parents_by n es) t) t
parent-linked n [] t ok h = range-at n t h
parent-linked n (e ∷ es) t ok h = go (cases_eq t (root es e.a.0)) (parent-linked n es t ok.3 h)
  where
    go : (t ≡ root es e.a.0) ⊎ (t ≢ root es e.a.0) → Linked es (slice_index (parents_by n es) t) t → Linked (e ∷ es) (slice_index (parents_by n (e ∷ es)) t) t
    go (inl p) ih = subst (λ s. Linked (e ∷ es) (slice_index (parents_by n (e ∷ es)) s) s) (sym p)
        (ap (root (e ∷ es)) (parent-top n e es ok) ∙ root-elsewhere e es (root es e.b.0) (λ q. above_top n e es ok (sym (root-again n es e.b.0 ok.3) ∙ q)) ∙ root-again n es e.b.0 ok.3 ∙ sym (root-under e es (root es e.a.0) (root-again n es e.a.0 ok.3)))
    go (inr p) ih = ap (root (e ∷ es)) (parent-other n e es ok t p) ∙ linked-more e es _ _ ih

-- the edge over the term above is newer, if there is one
pub stamp-less : (n : ℕ) (es : List Edge) (t : ℕ) → EdgesAreApart n es → t < n → slice_index (stamps_by n es) t ≢ 0
    → (slice_index (stamps_by n es) (slice_index (parents_by n es) t) ≡ 0) ⊎ (slice_index (stamps_by n es) t < slice_index (stamps_by n es) (slice_index (parents_by n es) t))
stamp-less n [] t ok h z = absurd (z (blank-at n t h))
stamp-less n (e ∷ es) t ok h z = go (cases_eq t (root es e.a.0)) (cases_eq (slice_index (parents_by n es) t) (root es e.a.0)) (stamp-less n es t ok.3 h)
  where
    os : List ℕ
    os = stamps_by n (e ∷ es)

    go : (t ≡ root es e.a.0) ⊎ (t ≢ root es e.a.0) → (slice_index (parents_by n es) t ≡ root es e.a.0) ⊎ (slice_index (parents_by n es) t ≢ root es e.a.0)
        → (slice_index (stamps_by n es) t ≢ 0 → (slice_index (stamps_by n es) (slice_index (parents_by n es) t) ≡ 0) ⊎ (slice_index (stamps_by n es) t < slice_index (stamps_by n es) (slice_index (parents_by n es) t)))
        → (slice_index os (slice_index (parents_by n (e ∷ es)) t) ≡ 0) ⊎ (slice_index os t < slice_index os (slice_index (parents_by n (e ∷ es)) t))
    go (inl p) q ih = inl (ap (λ s. slice_index os (slice_index (parents_by n (e ∷ es)) s)) p ∙ ap (slice_index os) (parent-top n e es ok) ∙ stamp-other n e es ok (root es e.b.0) (above_top n e es ok)
        ∙ root-stamp n es (root es e.b.0) ok.3 (root-low n es e.b.0 ok.3 ok.1) (root-again n es e.b.0 ok.3))
    go (inr p) (inl q) ih = inr (
        let parents : slice_index os (slice_index (parents_by n (e ∷ es)) t) ≡ suc (length es) = ap (slice_index os) (parent-other n e es ok t p ∙ q) ∙ stamp-top n e es ok in
        let own : slice_index os t ≡ slice_index (stamps_by n es) t = stamp-other n e es ok t p in
        let le = stamp-le n es t ok.3 h in rw (parents, own) (omega arith))
    go (inr p) (inr q) ih = keep (ih (λ k. z (stamp-other n e es ok t p ∙ k)))
      where
        parents : slice_index os (slice_index (parents_by n (e ∷ es)) t) ≡ slice_index (stamps_by n es) (slice_index (parents_by n es) t)
        parents = ap (slice_index os) (parent-other n e es ok t p) ∙ stamp-other n e es ok _ q

        keep : (slice_index (stamps_by n es) (slice_index (parents_by n es) t) ≡ 0) ⊎ (slice_index (stamps_by n es) t < slice_index (stamps_by n es) (slice_index (parents_by n es) t))
            → (slice_index os (slice_index (parents_by n (e ∷ es)) t) ≡ 0) ⊎ (slice_index os t < slice_index os (slice_index (parents_by n (e ∷ es)) t))
        keep (inl k) = inl (parents ∙ k)
        keep (inr k) = inr (rw (parents, stamp-other n e es ok t p) k)

pub height-less : (n : ℕ) (es : List Edge) (t : ℕ) → EdgesAreApart n es → t < n → slice_index (stamps_by n es) t ≢ 0 → height (stamps_by n es) (length es) (slice_index (parents_by n es) t) < height (stamps_by n es) (length es) t
height-less n es t ok h z = go (stamp-less n es t ok h z) (stamp-le n es t ok h) (stamp-le n es (slice_index (parents_by n es) t) ok (parent-low n es t ok h))
  where
    go : (slice_index (stamps_by n es) (slice_index (parents_by n es) t) ≡ 0) ⊎ (slice_index (stamps_by n es) t < slice_index (stamps_by n es) (slice_index (parents_by n es) t)) → slice_index (stamps_by n es) t ≤ length es
        → slice_index (stamps_by n es) (slice_index (parents_by n es) t) ≤ length es → height (stamps_by n es) (length es) (slice_index (parents_by n es) t) < height (stamps_by n es) (length es) t
    go (inl p) le le2 = grind (arith, nat_tests)
    go (inr p) le le2 = grind (arith, nat_tests)

-- no edge is over two terms
pub stamp-one : (n : ℕ) (es : List Edge) (s t : ℕ) → EdgesAreApart n es → s < n → t < n → slice_index (stamps_by n es) s ≢ 0 → slice_index (stamps_by n es) s ≡ slice_index (stamps_by n es) t → s ≡ t
stamp-one n [] s t ok hs ht z e = absurd (z (blank-at n s hs))
stamp-one n (e ∷ es) s t ok hs ht z same = go (cases_eq s (root es e.a.0)) (cases_eq t (root es e.a.0)) (stamp-one n es s t ok.3 hs ht) (stamp-le n es s ok.3 hs) (stamp-le n es t ok.3 ht)
  where
    go : (s ≡ root es e.a.0) ⊎ (s ≢ root es e.a.0) → (t ≡ root es e.a.0) ⊎ (t ≢ root es e.a.0)
        → (slice_index (stamps_by n es) s ≢ 0 → slice_index (stamps_by n es) s ≡ slice_index (stamps_by n es) t → s ≡ t) → slice_index (stamps_by n es) s ≤ length es → slice_index (stamps_by n es) t ≤ length es → s ≡ t
    go (inl p) (inl q) ih ls lt = p ∙ sym q
    go (inl p) (inr q) ih ls lt = let x : slice_index (stamps_by n (e ∷ es)) s ≡ suc (length es) = ap (slice_index (stamps_by n (e ∷ es))) p ∙ stamp-top n e es ok in
        let y = stamp-other n e es ok t q in absurd (omega (arith, x, y, same))
    go (inr p) (inl q) ih ls lt = let x : slice_index (stamps_by n (e ∷ es)) t ≡ suc (length es) = ap (slice_index (stamps_by n (e ∷ es))) q ∙ stamp-top n e es ok in
        let y = stamp-other n e es ok s p in absurd (omega (arith, x, y, same))
    go (inr p) (inr q) ih ls lt = ih (λ k. z (stamp-other n e es ok s p ∙ k)) (sym (stamp-other n e es ok s p) ∙ same ∙ stamp-other n e es ok t q)
