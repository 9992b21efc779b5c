-- The arrays with more or fewer terms, and with the newest edge taken away.
use Rattle.std.proofs.Common.{◌≡◌, ◌≢◌, ℕ, zero, suc, ◌+◌, ◌-◌, ◌<◌, ◌≤◌, List, [], ◌∷◌, ◌++◌, length, reverse, take, replicate, slice_index, slice_set, refl, sym, ◌∙◌, ap, subst, arith, length-append, length-set, zero-add, add-one}
use Rattle.std.specs.List.{range_with_len}
use Rattle.std.proofs.lemmas.Grind.{common_steps, replicate_next}
use Rattle.std.proofs.lemmas.List.{reverse-append, reverse-reverse, length-reverse, set-append_left, set-set, set-get_or, take_all, take-append-le, length-take-le}
use Rattle.explain_forest.specs.declared.types.Edge.{Edge}
use Rattle.explain_forest.specs.Forest.{root, Linked}
use Rattle.explain_forest.specs.Kept.{EdgesAreApart, parents_by, stamps_by, height, ArraysShow}
use Rattle.explain_forest.proofs.Roots.{range-next, root-low, root-again, stamp-top, stamp-other, parent-other, parent-linked, parent-low, stamp-root, stamp-one, root-parent, root-stamp, height-less, length-parents, length-stamps}
use Rattle.explain_forest.proofs.Climbing.{by_arrays}

-- one who climbs from the newest edge comes to the term that it put under another
module _ (n : ℕ) (e : Edge) (es : List Edge) (ok : EdgesAreApart n (e ∷ es)) (t : ℕ) (low : t < n) (other : slice_index (stamps_by n (e ∷ es)) t ≢ suc (length es)) (linked : Linked es t e.a.0) where
  not_below : t ≢ root es e.a.0
  not_below p = other (ap (slice_index (stamps_by n (e ∷ es))) p ∙ stamp-top n e es ok)

  climbs_on : slice_index (stamps_by n (e ∷ es)) t ≢ 0
  climbs_on z = not_below (sym (stamp-root n es t ok.3 low (sym (stamp-other n e es ok t not_below) ∙ z)) ∙ linked)

  climbs_linked : Linked es (slice_index (parents_by n (e ∷ es)) t) e.a.0
  climbs_linked = ap (root es) (parent-other n e es ok t not_below) ∙ parent-linked n es t ok.3 low ∙ linked

has_newest : (edges : List Edge) → 0 < length edges → (e : Edge) × (es : List Edge) × (reverse edges ≡ e ∷ es)
has_newest edges h = go (reverse edges) refl
  where
    go : (r : List Edge) → reverse edges ≡ r → (e : Edge) × (es : List Edge) × (reverse edges ≡ e ∷ es)
    go [] p = absurd (omega (arith, length-reverse edges, ap length p))
    go (e ∷ es) p = (e, es, p)

same_newest : (e f : Edge) (es fs : List Edge) → e ∷ es ≡ f ∷ fs → (e ≡ f) × (es ≡ fs)
same_newest e f es fs h = (cc, cc)

-- What a climb keeps, and that it ends.
pub record OneUp (parents stamps : List ℕ) (edges : List Edge) (t : ℕ) : Type 0 where
  pub low : slice_index parents t < length parents
  pub linked : (e : Edge) (es : List Edge) → reverse edges ≡ e ∷ es → Linked es (slice_index parents t) e.a.0
  pub less : height stamps (length (reverse edges)) (slice_index parents t) < height stamps (length (reverse edges)) t

pub one_up : (parents stamps : List ℕ) (edges : List Edge) → ArraysShow parents stamps edges → 0 < length edges → (t : ℕ) → t < length parents → slice_index stamps t ≢ length edges
    → ((e : Edge) (es : List Edge) → reverse edges ≡ e ∷ es → Linked es t e.a.0) → OneUp parents stamps edges t
one_up parents stamps edges s some t low other linked =
    let x = has_newest edges some in
    let e = x.0 in
    let es = x.1 in
    let len : length edges ≡ suc (length es) = sym (length-reverse edges) ∙ ap length x.2 in
    let ok = subst (EdgesAreApart (length parents)) x.2 s.apart in
    let link = linked e es x.2 in
    let other2 : slice_index (stamps_by (length parents) (e ∷ es)) t ≢ suc (length es) = λ z. other (ap (λ os. slice_index os t) s.stamps_are ∙ ap (λ r. slice_index (stamps_by (length parents) r) t) x.2 ∙ z ∙ sym len) in
    record {
      low = subst (λ us. slice_index us t < length parents) (sym s.parents_are) (parent-low (length parents) (reverse edges) t s.apart low);
      linked = λ f fs p.
          let q = same_newest e f es fs (sym x.2 ∙ p) in
          subst (λ r. Linked r (slice_index parents t) f.a.0) q.1 (subst (λ g. Linked es (slice_index parents t) g.a.0) q.0
          (subst (λ us. Linked es (slice_index us t) e.a.0) (sym (s.parents_are ∙ ap (parents_by (length parents)) x.2)) (climbs_linked (length parents) e es ok t low other2 link)));
      less = by_arrays parents stamps edges s (λ us os. height os (length (reverse edges)) (slice_index us t) < height os (length (reverse edges)) t)
          (height-less (length parents) (reverse edges) t s.apart low (λ z. climbs_on (length parents) e es ok t low other2 link (sym (ap (λ r. slice_index (stamps_by (length parents) r) t) x.2) ∙ z)));
    }

-- more terms
pub apart-le : (n m : ℕ) (es : List Edge) → n ≤ m → EdgesAreApart n es → EdgesAreApart m es
apart-le n m [] h ok = tt
apart-le n m (e ∷ es) h ok = (omega (arith, ok.0), omega (arith, ok.1), ok.2, apart-le n m es h ok.3)

parents-more : (n : ℕ) (es : List Edge) → EdgesAreApart n es → parents_by (suc n) es ≡ parents_by n es ++ n ∷ []
parents-more n [] ok = range-next 0 n ∙ ap (λ k. range_with_len 0 n ++ k ∷ []) (zero-add n)
parents-more n (e ∷ es) ok = ap (λ us. slice_set us (root es e.a.0) (root es e.b.0)) (parents-more n es ok.3) ∙ set-append_left (parents_by n es) (n ∷ []) (root es e.a.0) (root es e.b.0) (subst (λ k. root es e.a.0 < k) (sym (length-parents n es)) (root-low n es e.a.0 ok.3 ok.0))

stamps-more : (n : ℕ) (es : List Edge) → EdgesAreApart n es → stamps_by (suc n) es ≡ stamps_by n es ++ 0 ∷ []
stamps-more n [] ok = ap (λ k. replicate {A = ℕ} k 0) (sym (add-one n)) ∙ replicate_next {X = ℕ} n 0
stamps-more n (e ∷ es) ok = ap (λ us. slice_set us (root es e.a.0) (suc (length es))) (stamps-more n es ok.3) ∙ set-append_left (stamps_by n es) (0 ∷ []) (root es e.a.0) (suc (length es)) (subst (λ k. root es e.a.0 < k) (sym (length-stamps n es)) (root-low n es e.a.0 ok.3 ok.0))

pub shows-more : (parents stamps : List ℕ) (edges : List Edge) → ArraysShow parents stamps edges → ArraysShow (parents ++ length parents ∷ []) (stamps ++ 0 ∷ []) edges
shows-more parents stamps edges s =
    let n = length parents in
    let len : length (parents ++ length parents ∷ []) ≡ suc n = length-append parents (n ∷ []) ∙ omega arith in
    record {
      parents_are = subst (λ k. parents ++ n ∷ [] ≡ parents_by k (reverse edges)) (sym len) (ap (λ us. us ++ n ∷ []) s.parents_are ∙ sym (parents-more n (reverse edges) s.apart));
      stamps_are = subst (λ k. stamps ++ 0 ∷ [] ≡ stamps_by k (reverse edges)) (sym len) (ap (λ us. us ++ 0 ∷ []) s.stamps_are ∙ sym (stamps-more n (reverse edges) s.apart));
      apart = subst (λ k. EdgesAreApart k (reverse edges)) (sym len) (apart-le n (suc n) (reverse edges) (omega arith) s.apart);
    }

-- one edge fewer
set-back : (xs : List ℕ) (i v w : ℕ) → slice_index xs i ≡ v → slice_set (slice_set xs i w) i v ≡ xs
set-back xs i v w e = set-set xs i w v ∙ ap (slice_set xs i) (sym e) ∙ set-get_or xs i 0

front_of : (xs : List Edge) (e : Edge) (es : List Edge) → reverse xs ≡ e ∷ es → take (length xs - 1) xs ≡ reverse es
front_of xs e es h =
    let is : xs ≡ reverse es ++ e ∷ [] = sym (reverse-reverse xs) ∙ ap reverse h ∙ reverse-append (e ∷ []) es in
    subst (λ l. take (length l - 1) l ≡ reverse es) (sym is) (let n = length-append (reverse es) (e ∷ []) in grind (arith, common_steps, n))

pub shows-less : (parents stamps : List ℕ) (edges : List Edge) → ArraysShow parents stamps edges → 0 < length edges → (t : ℕ) → t < length parents → slice_index stamps t ≡ length edges
    → ArraysShow (slice_set parents t t) (slice_set stamps t 0) (take (length edges - 1) edges)
shows-less parents stamps edges s some t low own =
    let x = has_newest edges some in
    let e = x.0 in
    let es = x.1 in
    let n = length parents in
    let len : length edges ≡ suc (length es) = sym (length-reverse edges) ∙ ap length x.2 in
    let ok = subst (EdgesAreApart n) x.2 s.apart in
    let r : ℕ = root es e.a.0 in
    let r_low : r < n = root-low n es e.a.0 ok.3 ok.0 in
    let again : root es r ≡ r = root-again n es e.a.0 ok.3 in
    let top : slice_index (stamps_by n (e ∷ es)) t ≡ suc (length es) = sym (ap (λ os. slice_index os t) (s.stamps_are ∙ ap (stamps_by n) x.2)) ∙ own ∙ len in
    let is : t ≡ r = stamp-one n (e ∷ es) t r ok low r_low (λ z. not_zero (sym top ∙ z)) (top ∙ sym (stamp-top n e es ok)) in
    let us : slice_set parents t t ≡ parents_by n es =
    (λ i. slice_set ((s.parents_are ∙ ap (parents_by n) x.2) i) (is i) (is i)) ∙ set-back (parents_by n es) r r (root es e.b.0) (root-parent n es r ok.3 r_low again) in
    let os : slice_set stamps t 0 ≡ stamps_by n es =
    (λ i. slice_set ((s.stamps_are ∙ ap (stamps_by n) x.2) i) (is i) 0) ∙ set-back (stamps_by n es) r 0 (suc (length es)) (root-stamp n es r ok.3 r_low again) in
    let front : reverse (take (length edges - 1) edges) ≡ es = ap reverse (front_of edges e es x.2) ∙ reverse-reverse es in
    let m : length (slice_set parents t t) ≡ n = length-set parents t t in
    record {
      parents_are = us ∙ (λ i. parents_by (sym m i) (sym front i));
      stamps_are = os ∙ (λ i. stamps_by (sym m i) (sym front i));
      apart = subst (λ k. EdgesAreApart k (reverse (take (length edges - 1) edges))) (sym m) (subst (EdgesAreApart n) (sym front) ok.3);
    }
  where
    not_zero : {k : ℕ} → suc k ≡ 0 → ⊥
    not_zero h = omega arith

-- fewer terms, which no edge is at
parents-fewer : (d n k : ℕ) (es : List Edge) → n ≡ d + k → EdgesAreApart k es → take k (parents_by n es) ≡ parents_by k es
parents-fewer zero n k es is ok = ap (λ j. take k (parents_by j es)) (is ∙ zero-add k) ∙ take_all k (parents_by k es) (let m = length-parents k es in omega (arith, m))
parents-fewer (suc d) n k es is ok =
    let next : n ≡ suc (d + k) = omega (arith, is) in
    ap (λ j. take k (parents_by j es)) next ∙ ap (take k) (parents-more (d + k) es (apart-le k (d + k) es (omega arith) ok))
    ∙ take-append-le k (parents_by (d + k) es) ((d + k) ∷ []) (let m = length-parents (d + k) es in omega (arith, m)) ∙ parents-fewer d (d + k) k es refl ok

stamps-fewer : (d n k : ℕ) (es : List Edge) → n ≡ d + k → EdgesAreApart k es → take k (stamps_by n es) ≡ stamps_by k es
stamps-fewer zero n k es is ok = ap (λ j. take k (stamps_by j es)) (is ∙ zero-add k) ∙ take_all k (stamps_by k es) (let m = length-stamps k es in omega (arith, m))
stamps-fewer (suc d) n k es is ok =
    let next : n ≡ suc (d + k) = omega (arith, is) in
    ap (λ j. take k (stamps_by j es)) next ∙ ap (take k) (stamps-more (d + k) es (apart-le k (d + k) es (omega arith) ok))
    ∙ take-append-le k (stamps_by (d + k) es) (0 ∷ []) (let m = length-stamps (d + k) es in omega (arith, m)) ∙ stamps-fewer d (d + k) k es refl ok

pub shows-fewer : (parents stamps : List ℕ) (edges : List Edge) (k : ℕ) → k ≤ length parents → EdgesAreApart k (reverse edges) → ArraysShow parents stamps edges → ArraysShow (take k parents) (take k stamps) edges
shows-fewer parents stamps edges k h apart s =
    let es = reverse edges in
    let n : ℕ = length parents in
    let m : length (take k parents) ≡ k = length-take-le k parents h in
    let d : n ≡ (n - k) + k = omega (arith, h) in
    record {
      parents_are = ap (take k) s.parents_are ∙ parents-fewer (n - k) n k es d apart ∙ ap (λ j. parents_by j es) (sym m);
      stamps_are = ap (take k) s.stamps_are ∙ stamps-fewer (n - k) n k es d apart ∙ ap (λ j. stamps_by j es) (sym m);
      apart = subst (λ j. EdgesAreApart j es) (sym m) apart;
    }
