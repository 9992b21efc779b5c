-- What one edge more links, and what the oldest edges link.
use Rattle.std.proofs.Common.{◌≡◌, ◌≢◌, ℕ, suc, ◌<◌, ◌≤◌, ◌↔◌, nat_lt, Bool, true, false, List, [], ◌∷◌, length, if◌then◌else◌, refl, sym, ◌∙◌, ap, arith, inl, inr, ◌⊎◌}
use Rattle.std.proofs.lemmas.Bool.{cases_eq, cases_lt}
use Rattle.std.proofs.lemmas.Bool.Decides.{nat_tests}
use Rattle.explain_forest.specs.declared.types.Edge.{Edge}
use Rattle.explain_forest.specs.Forest.{root, Linked, IsBetween, path, numbered, older}
use Rattle.explain_forest.proofs.Roots.{root-under, root-elsewhere, linked-more}
use Rattle.explain_forest.proofs.Levels.{numbered-top, numbered-older, path-kept}

between-linked : (e : Edge) (es : List Edge) (x y : ℕ) → Linked es x e.a.0 → Linked es e.b.0 y → Linked (e ∷ es) x y
between-linked e es x y p q = root-under e es x p ∙ go (cases_eq (root es y) (root es e.a.0))
  where
    go : (root es y ≡ root es e.a.0) ⊎ (root es y ≢ root es e.a.0) → root es e.b.0 ≡ root (e ∷ es) y
    go (inl r) = sym (root-under e es y r)
    go (inr r) = q ∙ sym (root-elsewhere e es y r)

-- With one edge more those are linked that were, and those between which it is.
pub linked-after : (e : Edge) (es : List Edge) (x y : ℕ) → Linked (e ∷ es) x y ↔ (Linked es x y ⊎ IsBetween es e x y)
linked-after e es x y = (there (cases_eq (root es x) (root es e.a.0)) (cases_eq (root es y) (root es e.a.0)), back_again)
  where
    there : (root es x ≡ root es e.a.0) ⊎ (root es x ≢ root es e.a.0) → (root es y ≡ root es e.a.0) ⊎ (root es y ≢ root es e.a.0) → Linked (e ∷ es) x y → Linked es x y ⊎ IsBetween es e x y
    there (inl p) (inl q) h = inl (p ∙ sym q)
    there (inl p) (inr q) h = inr (inl (p, sym (root-under e es x p) ∙ h ∙ root-elsewhere e es y q))
    there (inr p) (inl q) h = inr (inr (sym (root-elsewhere e es x p) ∙ h ∙ root-under e es y q, sym q))
    there (inr p) (inr q) h = inl (sym (root-elsewhere e es x p) ∙ h ∙ root-elsewhere e es y q)

    back_again : Linked es x y ⊎ IsBetween es e x y → Linked (e ∷ es) x y
    back_again (inl h) = linked-more e es x y h
    back_again (inr (inl h)) = between-linked e es x y h.0 h.1
    back_again (inr (inr h)) = sym (between-linked e es y x (sym h.1) (sym h.0))

pub older-later : (e : Edge) (es : List Edge) (k : ℕ) → k ≤ length es → older (e ∷ es) k ≡ older es k
older-later e es k h = ap (λ b. if b then e ∷ es else older es k) test
  where
    test : nat_lt (length es) k ≡ false
    test = grind (arith, nat_tests)

pub older-none : (es : List Edge) → older es 0 ≡ []
older-none [] = refl
older-none (e ∷ es) = older-later e es 0 (omega arith) ∙ older-none es

pub older-all : (es : List Edge) (k : ℕ) → length es ≤ k → older es k ≡ es
older-all [] k h = refl
older-all (e ∷ es) k h = ap (λ b. if b then e ∷ es else older es k) test
  where
    test : nat_lt (length es) k ≡ true
    test = grind (arith, nat_tests)

pub length-older : (es : List Edge) (k : ℕ) → k ≤ length es → length (older es k) ≡ k
length-older [] k h = omega arith
length-older (e ∷ es) k h = go (cases_lt (length es) k) (length-older es k)
  where
    go : (length es < k) ⊎ (k ≤ length es) → (k ≤ length es → length (older es k) ≡ k) → length (older (e ∷ es) k) ≡ k
    go (inl l) ih = ap length (older-all (e ∷ es) k (omega arith)) ∙ omega arith
    go (inr l) ih = ap length (older-later e es k l) ∙ ih l

-- one more of the oldest edges
pub older-next : (es : List Edge) (k : ℕ) → k < length es → older es (suc k) ≡ numbered es k ∷ older es k
older-next [] k h = absurd (omega arith)
older-next (e ∷ es) k h = go (cases_eq k (length es)) (older-next es k)
  where
    go : (k ≡ length es) ⊎ (k ≢ length es) → (k < length es → older es (suc k) ≡ numbered es k ∷ older es k) → older (e ∷ es) (suc k) ≡ numbered (e ∷ es) k ∷ older (e ∷ es) k
    go (inl p) ih = older-all (e ∷ es) (suc k) (omega arith) ∙ (λ i. sym (numbered-top e es k p) i ∷ sym (older-later e es k (omega arith) ∙ older-all es k (omega arith)) i)
    go (inr p) ih = older-later e es (suc k) (omega arith) ∙ ih (omega arith) ∙ (λ i. sym (numbered-older e es k p) i ∷ sym (older-later e es k (omega arith)) i)

-- the oldest edges have the numbers that they have among all
pub numbered-of_older : (es : List Edge) (k j : ℕ) → j < k → k ≤ length es → numbered (older es k) j ≡ numbered es j
numbered-of_older [] k j l h = absurd (omega arith)
numbered-of_older (e ∷ es) k j l h = go (cases_lt (length es) k) (numbered-of_older es k j l)
  where
    go : (length es < k) ⊎ (k ≤ length es) → (k ≤ length es → numbered (older es k) j ≡ numbered es j) → numbered (older (e ∷ es) k) j ≡ numbered (e ∷ es) j
    go (inl m) ih = ap (λ ds. numbered ds j) (older-all (e ∷ es) k (omega arith))
    go (inr m) ih = ap (λ ds. numbered ds j) (older-later e es k m) ∙ ih m ∙ sym (numbered-older e es j (λ p. not_top l m p))
      where
        not_top : {a b c : ℕ} → a < b → b ≤ c → a ≡ c → ⊥
        not_top x y p = omega arith

-- What the oldest edges link, all link, by the same path.
pub older-linked : (es : List Edge) (k x y : ℕ) → Linked (older es k) x y → Linked es x y × (path es x y ≡ path (older es k) x y)
older-linked [] k x y h = (h, refl)
older-linked (e ∷ es) k x y h = go (nat_lt (length es) k) (older-linked es k x y) h
  where
    go : (b : Bool) → (Linked (older es k) x y → Linked es x y × (path es x y ≡ path (older es k) x y)) → Linked (if b then e ∷ es else older es k) x y
        → Linked (e ∷ es) x y × (path (e ∷ es) x y ≡ path (if b then e ∷ es else older es k) x y)
    go true ih l = (l, refl)
    go false ih l = let r = ih l in (linked-more e es x y r.0, path-kept e es x y r.0 ∙ r.1)
