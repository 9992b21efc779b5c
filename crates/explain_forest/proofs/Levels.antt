-- Roots by the oldest edges alone.
use Rattle.std.proofs.Common.{◌≡◌, ◌≢◌, ℕ, suc, ◌<◌, ◌≤◌, ◌==◌, ◌&&◌, nat_lt, true, false, List, [], ◌∷◌, ◌++◌, length, slice_index, if◌then◌else◌, refl, sym, ◌∙◌, ap, subst, arith, inl, inr, ◌⊎◌}
use Rattle.std.proofs.lemmas.Bool.{cases_eq, cases_lt}
use Rattle.std.proofs.lemmas.Bool.Decides.{nat_tests}
use Rattle.explain_forest.specs.declared.types.Edge.{Edge}
use Rattle.explain_forest.specs.Forest.{root, Linked, forth, back, path, no_edge, numbered, older}
use Rattle.explain_forest.specs.Kept.{EdgesAreApart, parents_by, stamps_by, root_at}
use Rattle.explain_forest.proofs.Roots.{root-again, stamp-top, stamp-other, parent-top, parent-other, root-stamp}

test_true : (a b : ℕ) → a ≡ b → (a == b) ≡ true
test_true a b h = grind (arith, nat_tests)

test_false : (a b : ℕ) → a ≢ b → (a == b) ≡ false
test_false a b h = grind (arith, nat_tests)

-- an edge that comes later counts for nothing
pub at-later : (k : ℕ) (e : Edge) (es : List Edge) (t : ℕ) → k ≤ length es → root_at k (e ∷ es) t ≡ root_at k es t
at-later k e es t h = grind (arith, nat_tests)

pub at-under : (k : ℕ) (e : Edge) (es : List Edge) (t : ℕ) → length es < k → root_at k es t ≡ root_at k es e.a.0 → root_at k (e ∷ es) t ≡ root_at k es e.b.0
at-under k e es t h p = grind (arith, nat_tests)

pub at-elsewhere : (k : ℕ) (e : Edge) (es : List Edge) (t : ℕ) → root_at k es t ≢ root_at k es e.a.0 → root_at k (e ∷ es) t ≡ root_at k es t
at-elsewhere k e es t p = grind (arith, nat_tests)

-- all of them
pub at-all : (k : ℕ) (es : List Edge) (t : ℕ) → length es ≤ k → root_at k es t ≡ root es t
at-all k [] t h = refl
at-all k (e ∷ es) t h = let x = at-all k es t (omega arith) in let y = at-all k es e.a.0 (omega arith) in let z = at-all k es e.b.0 (omega arith) in grind (arith, nat_tests)

pub at-none : (es : List Edge) (t : ℕ) → root_at 0 es t ≡ t
at-none [] t = refl
at-none (e ∷ es) t = at-later 0 e es t (omega arith) ∙ at-none es t

-- a term is its own root until the edge over it comes
pub at-until : (n k : ℕ) (es : List Edge) (t : ℕ) → EdgesAreApart n es → t < n → (slice_index (stamps_by n es) t ≡ 0) ⊎ (k < slice_index (stamps_by n es) t) → root_at k es t ≡ t
at-until n k [] t ok h z = refl
at-until n k (e ∷ es) t ok h z = go (cases_eq t (root es e.a.0)) (cases_eq (root_at k es t) (root_at k es e.a.0)) (at-until n k es t ok.3 h)
  where
    go : (t ≡ root es e.a.0) ⊎ (t ≢ root es e.a.0) → (root_at k es t ≡ root_at k es e.a.0) ⊎ (root_at k es t ≢ root_at k es e.a.0)
        → ((slice_index (stamps_by n es) t ≡ 0) ⊎ (k < slice_index (stamps_by n es) t) → root_at k es t ≡ t) → root_at k (e ∷ es) t ≡ t
    go (inl p) q ih = at-later k e es t (early z) ∙ ih (inl (root-stamp n es t ok.3 h (ap (root es) p ∙ root-again n es e.a.0 ok.3 ∙ sym p)))
      where
        own : slice_index (stamps_by n (e ∷ es)) t ≡ suc (length es)
        own = ap (slice_index (stamps_by n (e ∷ es))) p ∙ stamp-top n e es ok

        early : (slice_index (stamps_by n (e ∷ es)) t ≡ 0) ⊎ (k < slice_index (stamps_by n (e ∷ es)) t) → k ≤ length es
        early (inl r) = omega (arith, own, r)
        early (inr r) = omega (arith, own, r)
    go (inr p) q ih = step q (ih (older z))
      where
        older : (slice_index (stamps_by n (e ∷ es)) t ≡ 0) ⊎ (k < slice_index (stamps_by n (e ∷ es)) t) → (slice_index (stamps_by n es) t ≡ 0) ⊎ (k < slice_index (stamps_by n es) t)
        older (inl r) = inl (sym (stamp-other n e es ok t p) ∙ r)
        older (inr r) = inr (subst (λ o. k < o) (stamp-other n e es ok t p) r)

        step : (root_at k es t ≡ root_at k es e.a.0) ⊎ (root_at k es t ≢ root_at k es e.a.0) → root_at k es t ≡ t → root_at k (e ∷ es) t ≡ t
        step (inr r) own = at-elsewhere k e es t r ∙ own
        step (inl r) own = late (cases_lt (length es) k) own
          where
            late : (length es < k) ⊎ (k ≤ length es) → root_at k es t ≡ t → root_at k (e ∷ es) t ≡ t
            late (inr a) own2 = at-later k e es t a ∙ own2
            late (inl a) own2 = absurd (p (sym own2 ∙ r ∙ at-all k es e.a.0 (omega arith)))

-- later edges see the roots of earlier ones
pub at-again : (n j k : ℕ) (es : List Edge) (x : ℕ) → EdgesAreApart n es → j ≤ k → root_at k es x ≡ root_at k es (root_at j es x)
at-again n j k [] x ok h = refl
at-again n j k (e ∷ es) x ok h = go (cases_lt (length es) j) (at-again n j k es x ok.3 h)
  where
    after : ℕ → ℕ
    after r = if nat_lt (length es) k && (r == root_at k es e.a.0) then root_at k es e.b.0 else r

    go : (length es < j) ⊎ (j ≤ length es) → root_at k es x ≡ root_at k es (root_at j es x) → root_at k (e ∷ es) x ≡ root_at k (e ∷ es) (root_at j (e ∷ es) x)
    go (inl p) ih = at-all k (e ∷ es) x (omega arith) ∙ sym (root-again n (e ∷ es) x ok) ∙ sym (at-all k (e ∷ es) (root (e ∷ es) x) (omega arith)) ∙ ap (root_at k (e ∷ es)) (sym (at-all j (e ∷ es) x (omega arith)))
    go (inr p) ih = ap after ih ∙ ap (root_at k (e ∷ es)) (sym (at-later j e es x p))

-- what the edge over a term says
pub record IsStamped (es : List Edge) (k t parent : ℕ) : Type 0 where
  pub there : k < length es
  pub under : root_at k es (numbered es k).a.0 ≡ t
  pub above : root_at k es (numbered es k).b.0 ≡ parent

pub numbered-top : (e : Edge) (es : List Edge) (k : ℕ) → k ≡ length es → numbered (e ∷ es) k ≡ e
numbered-top e es k h = grind (arith, nat_tests)

pub numbered-older : (e : Edge) (es : List Edge) (k : ℕ) → k ≢ length es → numbered (e ∷ es) k ≡ numbered es k
numbered-older e es k h = grind (arith, nat_tests)

pub stamp-says : (n k : ℕ) (es : List Edge) (t : ℕ) → EdgesAreApart n es → t < n → slice_index (stamps_by n es) t ≡ suc k → IsStamped es k t (slice_index (parents_by n es) t)
stamp-says n k [] t ok h e = absurd (no_edge (sym (stamp-root-zero) ∙ e))
  where
    no_edge : 0 ≡ suc k → ⊥
    no_edge q = omega arith

    stamp-root-zero : slice_index (stamps_by n []) t ≡ 0
    stamp-root-zero = root-stamp n [] t ok h refl
stamp-says n k (e ∷ es) t ok h o = go (cases_eq t (root es e.a.0)) (stamp-says n k es t ok.3 h)
  where
    go : (t ≡ root es e.a.0) ⊎ (t ≢ root es e.a.0) → (slice_index (stamps_by n es) t ≡ suc k → IsStamped es k t (slice_index (parents_by n es) t)) → IsStamped (e ∷ es) k t (slice_index (parents_by n (e ∷ es)) t)
    go (inl p) ih = record {
      there = omega (arith, top);
      under = ap (λ x. root_at k (e ∷ es) x.a.0) (numbered-top e es k top) ∙ at-later k e es e.a.0 (omega (arith, top)) ∙ at-all k es e.a.0 (omega (arith, top)) ∙ sym p;
      above = ap (λ x. root_at k (e ∷ es) x.b.0) (numbered-top e es k top) ∙ at-later k e es e.b.0 (omega (arith, top)) ∙ at-all k es e.b.0 (omega (arith, top)) ∙ sym (parent-top n e es ok) ∙ ap (slice_index (parents_by n (e ∷ es))) (sym p);
    }
      where
        own : slice_index (stamps_by n (e ∷ es)) t ≡ suc (length es)
        own = ap (slice_index (stamps_by n (e ∷ es))) p ∙ stamp-top n e es ok

        top : k ≡ length es
        top = omega (arith, own, o)
    go (inr p) ih = keep (ih (sym (stamp-other n e es ok t p) ∙ o))
      where
        keep : IsStamped es k t (slice_index (parents_by n es) t) → IsStamped (e ∷ es) k t (slice_index (parents_by n (e ∷ es)) t)
        keep r = record {
          there = omega (arith, r.there);
          under = ap (λ x. root_at k (e ∷ es) x.a.0) (numbered-older e es k (λ q. not_same r.there q)) ∙ at-later k e es _ (omega (arith, r.there)) ∙ r.under;
          above = ap (λ x. root_at k (e ∷ es) x.b.0) (numbered-older e es k (λ q. not_same r.there q)) ∙ at-later k e es _ (omega (arith, r.there)) ∙ r.above ∙ sym (parent-other n e es ok t p);
        }
          where
            not_same : k < length es → k ≡ length es → ⊥
            not_same a b = omega arith

-- what the edge of a number does to roots
pub next-under : (k : ℕ) (es : List Edge) (x : ℕ) → k < length es → root_at k es x ≡ root_at k es (numbered es k).a.0 → root_at (suc k) es x ≡ root_at k es (numbered es k).b.0
next-under k [] x h p = absurd (omega arith)
next-under k (e ∷ es) x h p = go (cases_eq k (length es)) (next-under k es x)
  where
    go : (k ≡ length es) ⊎ (k ≢ length es) → (k < length es → root_at k es x ≡ root_at k es (numbered es k).a.0 → root_at (suc k) es x ≡ root_at k es (numbered es k).b.0)
        → root_at (suc k) (e ∷ es) x ≡ root_at k (e ∷ es) (numbered (e ∷ es) k).b.0
    go (inl q) ih = at-under (suc k) e es x (omega arith) (at-all (suc k) es x (omega arith) ∙ sym (at-all k es x (omega arith)) ∙ sym (at-later k e es x (omega arith)) ∙ p ∙ ap (λ y. root_at k (e ∷ es) y.a.0) (numbered-top e es k q)
        ∙ at-later k e es e.a.0 (omega arith) ∙ at-all k es e.a.0 (omega arith) ∙ sym (at-all (suc k) es e.a.0 (omega arith)))
        ∙ at-all (suc k) es e.b.0 (omega arith) ∙ sym (at-all k es e.b.0 (omega arith)) ∙ sym (at-later k e es e.b.0 (omega arith)) ∙ ap (λ y. root_at k (e ∷ es) y.b.0) (sym (numbered-top e es k q))
    go (inr q) ih = at-later (suc k) e es x (omega arith) ∙ ih (omega arith) (sym (at-later k e es x (omega arith)) ∙ p ∙ ap (λ y. root_at k (e ∷ es) y.a.0) (numbered-older e es k q) ∙ at-later k e es _ (omega arith))
        ∙ sym (at-later k e es _ (omega arith)) ∙ ap (λ y. root_at k (e ∷ es) y.b.0) (sym (numbered-older e es k q))

pub next-elsewhere : (k : ℕ) (es : List Edge) (x : ℕ) → k < length es → root_at k es x ≢ root_at k es (numbered es k).a.0 → root_at (suc k) es x ≡ root_at k es x
next-elsewhere k [] x h p = absurd (omega arith)
next-elsewhere k (e ∷ es) x h p = go (cases_eq k (length es)) (next-elsewhere k es x)
  where
    go : (k ≡ length es) ⊎ (k ≢ length es) → (k < length es → root_at k es x ≢ root_at k es (numbered es k).a.0 → root_at (suc k) es x ≡ root_at k es x)
        → root_at (suc k) (e ∷ es) x ≡ root_at k (e ∷ es) x
    go (inl q) ih = at-elsewhere (suc k) e es x (λ r. p (at-later k e es x (omega arith) ∙ at-all k es x (omega arith) ∙ sym (at-all (suc k) es x (omega arith)) ∙ r ∙ at-all (suc k) es e.a.0 (omega arith)
        ∙ sym (at-all k es e.a.0 (omega arith)) ∙ sym (at-later k e es e.a.0 (omega arith)) ∙ ap (λ y. root_at k (e ∷ es) y.a.0) (sym (numbered-top e es k q))))
        ∙ at-all (suc k) es x (omega arith) ∙ sym (at-all k es x (omega arith)) ∙ sym (at-later k e es x (omega arith))
    go (inr q) ih = at-later (suc k) e es x (omega arith) ∙ ih (omega arith) (λ r. p (at-later k e es x (omega arith) ∙ r ∙ sym (at-later k e es _ (omega arith)) ∙ ap (λ y. root_at k (e ∷ es) y.a.0) (sym (numbered-older e es k q))))
        ∙ sym (at-later k e es x (omega arith))

pub path-kept : (e : Edge) (es : List Edge) (x y : ℕ) → Linked es x y → path (e ∷ es) x y ≡ path es x y
path-kept e es x y h = ap (λ b. if b then path es x y else if root es x == root es e.a.0 then path es x e.a.0 ++ forth (length es) e ∷ path es e.b.0 y else path es x e.b.0 ++ back (length es) e ∷ path es e.a.0 y) (test_true _ _ h)

pub path-forth : (e : Edge) (es : List Edge) (x y : ℕ) → root es x ≢ root es y → root es x ≡ root es e.a.0 → path (e ∷ es) x y ≡ path es x e.a.0 ++ forth (length es) e ∷ path es e.b.0 y
path-forth e es x y h p = (λ i. if test_false _ _ h i then path es x y else if test_true _ _ p i then path es x e.a.0 ++ forth (length es) e ∷ path es e.b.0 y else path es x e.b.0 ++ back (length es) e ∷ path es e.a.0 y)

pub path-back : (e : Edge) (es : List Edge) (x y : ℕ) → root es x ≢ root es y → root es x ≢ root es e.a.0 → path (e ∷ es) x y ≡ path es x e.b.0 ++ back (length es) e ∷ path es e.a.0 y
path-back e es x y h p = (λ i. if test_false _ _ h i then path es x y else if test_false _ _ p i then path es x e.a.0 ++ forth (length es) e ∷ path es e.b.0 y else path es x e.b.0 ++ back (length es) e ∷ path es e.a.0 y)

linked-from : (n k : ℕ) (es : List Edge) (x y : ℕ) → EdgesAreApart n es → k ≤ length es → root_at k es x ≡ root_at k es y → Linked es x y
linked-from n k es x y ok h p = sym (at-all (length es) es x (omega arith)) ∙ at-again n k (length es) es x ok h ∙ ap (root_at (length es) es) p ∙ sym (at-again n k (length es) es y ok h) ∙ at-all (length es) es y (omega arith)

-- A path whose newest edge has the number k goes over it.
module _ (n k : ℕ) where
  pub split-forth : (es : List Edge) (x y : ℕ) → EdgesAreApart n es → k < length es → root_at k es x ≢ root_at k es y → root_at k es x ≡ root_at k es (numbered es k).a.0 → root_at k es y ≡ root_at k es (numbered es k).b.0
      → path es x y ≡ path es x (numbered es k).a.0 ++ forth k (numbered es k) ∷ path es (numbered es k).b.0 y
  split-forth [] x y ok h d p q = absurd (omega arith)
  split-forth (e ∷ es) x y ok h d p q = go (cases_eq k (length es)) (split-forth es x y ok.3)
    where
      go : (k ≡ length es) ⊎ (k ≢ length es)
          → (k < length es → root_at k es x ≢ root_at k es y → root_at k es x ≡ root_at k es (numbered es k).a.0 → root_at k es y ≡ root_at k es (numbered es k).b.0 → path es x y ≡ path es x (numbered es k).a.0 ++ forth k (numbered es k) ∷ path es (numbered es k).b.0 y)
          → path (e ∷ es) x y ≡ path (e ∷ es) x (numbered (e ∷ es) k).a.0 ++ forth k (numbered (e ∷ es) k) ∷ path (e ∷ es) (numbered (e ∷ es) k).b.0 y
      go (inl t) ih =
          let plain = λ (z : ℕ). at-later k e es z (omega arith) ∙ at-all k es z (omega arith) in
          let px : root es x ≡ root es e.a.0 = sym (plain x) ∙ p ∙ ap (λ f. root_at k (e ∷ es) f.a.0) (numbered-top e es k t) ∙ plain e.a.0 in
          let py : root es y ≡ root es e.b.0 = sym (plain y) ∙ q ∙ ap (λ f. root_at k (e ∷ es) f.b.0) (numbered-top e es k t) ∙ plain e.b.0 in
          subst (λ f. path (e ∷ es) x y ≡ path (e ∷ es) x f.a.0 ++ forth k f ∷ path (e ∷ es) f.b.0 y) (sym (numbered-top e es k t))
          (path-forth e es x y (λ r. d (plain x ∙ r ∙ sym (plain y))) px ∙ (λ i. sym (path-kept e es x e.a.0 px) i ++ forth (sym t i) e ∷ sym (path-kept e es e.b.0 y (sym py)) i))
      go (inr t) ih =
          let later = λ (z : ℕ). at-later k e es z (omega arith) in
          let f : Edge = numbered es k in
          let px : root_at k es x ≡ root_at k es f.a.0 = sym (later x) ∙ p ∙ ap (λ g. root_at k (e ∷ es) g.a.0) (numbered-older e es k t) ∙ later f.a.0 in
          let py : root_at k es y ≡ root_at k es f.b.0 = sym (later y) ∙ q ∙ ap (λ g. root_at k (e ∷ es) g.b.0) (numbered-older e es k t) ∙ later f.b.0 in
          let dd : root_at k es x ≢ root_at k es y = λ r. d (later x ∙ r ∙ sym (later y)) in
          let lx : Linked es x f.a.0 = linked-from n k es x f.a.0 ok.3 (omega arith) px in
          let ly : Linked es f.b.0 y = linked-from n k es f.b.0 y ok.3 (omega arith) (sym py) in
          let lxy : Linked es x y = linked-from n (suc k) es x y ok.3 (omega arith) (next-under k es x (omega arith) px ∙ sym py ∙ sym (next-elsewhere k es y (omega arith) (λ r. dd (px ∙ sym r)))) in
          subst (λ g. path (e ∷ es) x y ≡ path (e ∷ es) x g.a.0 ++ forth k g ∷ path (e ∷ es) g.b.0 y) (sym (numbered-older e es k t))
          (path-kept e es x y lxy ∙ ih (omega arith) dd px py ∙ (λ i. sym (path-kept e es x f.a.0 lx) i ++ forth k f ∷ sym (path-kept e es f.b.0 y ly) i))

  pub split-back : (es : List Edge) (x y : ℕ) → EdgesAreApart n es → k < length es → root_at k es x ≢ root_at k es y → root_at k es x ≡ root_at k es (numbered es k).b.0 → root_at k es y ≡ root_at k es (numbered es k).a.0
      → path es x y ≡ path es x (numbered es k).b.0 ++ back k (numbered es k) ∷ path es (numbered es k).a.0 y
  split-back [] x y ok h d p q = absurd (omega arith)
  split-back (e ∷ es) x y ok h d p q = go (cases_eq k (length es)) (split-back es x y ok.3)
    where
      go : (k ≡ length es) ⊎ (k ≢ length es)
          → (k < length es → root_at k es x ≢ root_at k es y → root_at k es x ≡ root_at k es (numbered es k).b.0 → root_at k es y ≡ root_at k es (numbered es k).a.0 → path es x y ≡ path es x (numbered es k).b.0 ++ back k (numbered es k) ∷ path es (numbered es k).a.0 y)
          → path (e ∷ es) x y ≡ path (e ∷ es) x (numbered (e ∷ es) k).b.0 ++ back k (numbered (e ∷ es) k) ∷ path (e ∷ es) (numbered (e ∷ es) k).a.0 y
      go (inl t) ih =
          let plain = λ (z : ℕ). at-later k e es z (omega arith) ∙ at-all k es z (omega arith) in
          let px : root es x ≡ root es e.b.0 = sym (plain x) ∙ p ∙ ap (λ f. root_at k (e ∷ es) f.b.0) (numbered-top e es k t) ∙ plain e.b.0 in
          let py : root es y ≡ root es e.a.0 = sym (plain y) ∙ q ∙ ap (λ f. root_at k (e ∷ es) f.a.0) (numbered-top e es k t) ∙ plain e.a.0 in
          let dd : root es x ≢ root es y = λ r. d (plain x ∙ r ∙ sym (plain y)) in
          subst (λ f. path (e ∷ es) x y ≡ path (e ∷ es) x f.b.0 ++ back k f ∷ path (e ∷ es) f.a.0 y) (sym (numbered-top e es k t))
          (path-back e es x y dd (λ r. dd (r ∙ sym py)) ∙ (λ i. sym (path-kept e es x e.b.0 px) i ++ back (sym t i) e ∷ sym (path-kept e es e.a.0 y (sym py)) i))
      go (inr t) ih =
          let later = λ (z : ℕ). at-later k e es z (omega arith) in
          let f : Edge = numbered es k in
          let px : root_at k es x ≡ root_at k es f.b.0 = sym (later x) ∙ p ∙ ap (λ g. root_at k (e ∷ es) g.b.0) (numbered-older e es k t) ∙ later f.b.0 in
          let py : root_at k es y ≡ root_at k es f.a.0 = sym (later y) ∙ q ∙ ap (λ g. root_at k (e ∷ es) g.a.0) (numbered-older e es k t) ∙ later f.a.0 in
          let dd : root_at k es x ≢ root_at k es y = λ r. d (later x ∙ r ∙ sym (later y)) in
          let lx : Linked es x f.b.0 = linked-from n k es x f.b.0 ok.3 (omega arith) px in
          let ly : Linked es f.a.0 y = linked-from n k es f.a.0 y ok.3 (omega arith) (sym py) in
          let lxy : Linked es x y = linked-from n (suc k) es x y ok.3 (omega arith) (next-elsewhere k es x (omega arith) (λ r. dd (r ∙ sym py)) ∙ px ∙ sym (next-under k es y (omega arith) py)) in
          subst (λ g. path (e ∷ es) x y ≡ path (e ∷ es) x g.b.0 ++ back k g ∷ path (e ∷ es) g.a.0 y) (sym (numbered-older e es k t))
          (path-kept e es x y lxy ∙ ih (omega arith) dd px py ∙ (λ i. sym (path-kept e es x f.b.0 lx) i ++ back k f ∷ sym (path-kept e es f.a.0 y ly) i))

  pub linked-forth : (es : List Edge) (x y : ℕ) → EdgesAreApart n es → k < length es → root_at k es x ≡ root_at k es (numbered es k).a.0 → root_at k es y ≡ root_at k es (numbered es k).b.0
      → Linked es x (numbered es k).a.0 × Linked es (numbered es k).b.0 y
  linked-forth es x y ok h p q = (linked-from n k es x _ ok (omega arith) p, linked-from n k es _ y ok (omega arith) (sym q))

  pub linked-back : (es : List Edge) (x y : ℕ) → EdgesAreApart n es → k < length es → root_at k es x ≡ root_at k es (numbered es k).b.0 → root_at k es y ≡ root_at k es (numbered es k).a.0
      → Linked es x (numbered es k).b.0 × Linked es (numbered es k).a.0 y
  linked-back es x y ok h p q = (linked-from n k es x _ ok (omega arith) p, linked-from n k es _ y ok (omega arith) (sym q))
