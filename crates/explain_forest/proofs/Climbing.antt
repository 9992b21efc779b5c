-- Two terms climb to where they meet.
use Rattle.std.proofs.Common.{◌≡◌, ◌≢◌, ℕ, zero, suc, ◌+◌, ◌-◌, ◌<◌, ◌≤◌, true, false, List, length, reverse, slice_index, refl, sym, ◌∙◌, ap, subst, arith, inl, inr, ◌⊎◌}
use Rattle.std.proofs.lemmas.Bool.Decides.{nat_tests}
use Rattle.explain_forest.specs.declared.types.Edge.{Edge}
use Rattle.explain_forest.specs.Forest.{root, Linked}
use Rattle.explain_forest.specs.Kept.{EdgesAreApart, parents_by, stamps_by, height, root_at, ArraysShow, Tops, IsOlder, Climbs}
use Rattle.explain_forest.proofs.Roots.{stamp-root, stamp-less, stamp-one, parent-low, height-less, length-stamps}
use Rattle.explain_forest.proofs.Levels.{at-all, at-none, at-until, at-again, stamp-says, next-under, next-elsewhere}

module _ (n : ℕ) (es : List Edge) (x y : ℕ) (ok : EdgesAreApart n es) where
  pub climbs-start : x < n → y < n → x ≢ y → Climbs n es (stamps_by n es) (x, y) (x, y)
  climbs-start hx hy apart = record {
    level = 0;
    low = (hx, hy);
    later_left = some (slice_index (stamps_by n es) x);
    later_right = some (slice_index (stamps_by n es) y);
    over_left = at-none es x;
    over_right = at-none es y;
    apart = apart;
  }
    where
      some : (o : ℕ) → (o ≡ 0) ⊎ (0 < o)
      some zero = inl refl
      some (suc o) = inr (omega arith)

  -- linked terms do not both stand for themselves
  pub climbs-some : (u v : ℕ) → Linked es x y → Climbs n es (stamps_by n es) (x, y) (u, v) → 0 < slice_index (stamps_by n es) u + slice_index (stamps_by n es) v
  climbs-some u v linked c = go (slice_index (stamps_by n es) u) (slice_index (stamps_by n es) v) refl refl
    where
      full : (z w : ℕ) → root_at c.level es z ≡ w → c.level ≤ length es → root es z ≡ root es w
      full z w e le = sym (at-all (length es) es z (omega arith)) ∙ at-again n c.level (length es) es z ok le ∙ ap (root_at (length es) es) e ∙ at-all (length es) es w (omega arith)

      late : length es ≤ c.level → u ≡ v
      late le = sym c.over_left ∙ at-all c.level es x le ∙ linked ∙ sym (at-all c.level es y le) ∙ c.over_right

      early : c.level ≤ length es → slice_index (stamps_by n es) u ≡ 0 → slice_index (stamps_by n es) v ≡ 0 → u ≡ v
      early le p q = sym (stamp-root n es u ok c.low.0 p) ∙ sym (full x u c.over_left le) ∙ linked ∙ full y v c.over_right le ∙ stamp-root n es v ok c.low.1 q

      both : slice_index (stamps_by n es) u ≡ 0 → slice_index (stamps_by n es) v ≡ 0 → ⊥
      both p q = c.apart (choose (cases_le c.level (length es)))
        where
          cases_le : (a b : ℕ) → (a ≤ b) ⊎ (b ≤ a)
          cases_le a b = grind (arith, nat_tests)

          choose : (c.level ≤ length es) ⊎ (length es ≤ c.level) → u ≡ v
          choose (inl le) = early le p q
          choose (inr le) = late le

      go : (a b : ℕ) → slice_index (stamps_by n es) u ≡ a → slice_index (stamps_by n es) v ≡ b → 0 < slice_index (stamps_by n es) u + slice_index (stamps_by n es) v
      go zero zero p q = absurd (both p q)
      go (suc a) b p q = omega (arith, p)
      go zero (suc b) p q = omega (arith, q)

  pub climbs-apart : (u v : ℕ) → Linked es x y → Climbs n es (stamps_by n es) (x, y) (u, v) → slice_index (stamps_by n es) u ≢ slice_index (stamps_by n es) v
  climbs-apart u v linked c = λ e. c.apart (stamp-one n es u v ok c.low.0 c.low.1 (λ z. zero_sum (climbs-some u v linked c) z e) e)
    where
      zero_sum : {a b : ℕ} → 0 < a + b → a ≡ 0 → a ≡ b → ⊥
      zero_sum h p q = omega (arith, h, p, q)

  module _ (u v k : ℕ) (c : Climbs n es (stamps_by n es) (x, y) (u, v)) where
    below_u : slice_index (stamps_by n es) u ≡ suc k → c.level ≤ k
    below_u own = go c.later_left
      where
        go : (slice_index (stamps_by n es) u ≡ 0) ⊎ (c.level < slice_index (stamps_by n es) u) → c.level ≤ k
        go (inl z) = absurd (omega (arith, z, own))
        go (inr l) = omega (arith, l, own)

    below_v : slice_index (stamps_by n es) v ≡ suc k → c.level ≤ k
    below_v own = go c.later_right
      where
        go : (slice_index (stamps_by n es) v ≡ 0) ⊎ (c.level < slice_index (stamps_by n es) v) → c.level ≤ k
        go (inl z) = absurd (omega (arith, z, own))
        go (inr l) = omega (arith, l, own)

    keep : (w : ℕ) → (slice_index (stamps_by n es) w ≡ 0) ⊎ (suc k < slice_index (stamps_by n es) w) → (slice_index (stamps_by n es) w ≡ 0) ⊎ (k < slice_index (stamps_by n es) w)
    keep w (inl z) = inl z
    keep w (inr l) = inr (omega arith)

    at_x : c.level ≤ k → (slice_index (stamps_by n es) u ≡ 0) ⊎ (k < slice_index (stamps_by n es) u) → root_at k es x ≡ u
    at_x le h = at-again n c.level k es x ok le ∙ ap (root_at k es) c.over_left ∙ at-until n k es u ok c.low.0 h

    at_y : c.level ≤ k → (slice_index (stamps_by n es) v ≡ 0) ⊎ (k < slice_index (stamps_by n es) v) → root_at k es y ≡ v
    at_y le h = at-again n c.level k es y ok le ∙ ap (root_at k es) c.over_right ∙ at-until n k es v ok c.low.1 h

    is_over : (w : ℕ) → slice_index (stamps_by n es) w ≡ suc k → (slice_index (stamps_by n es) w ≡ 0) ⊎ (k < slice_index (stamps_by n es) w)
    is_over w own = inr (omega (arith, own))

    above : (w : ℕ) → w < n → slice_index (stamps_by n es) w ≡ suc k → (slice_index (stamps_by n es) (slice_index (parents_by n es) w) ≡ 0) ⊎ (suc k < slice_index (stamps_by n es) (slice_index (parents_by n es) w))
    above w hw own = go (stamp-less n es w ok hw (λ z. absurd (no z)))
      where
        no : slice_index (stamps_by n es) w ≡ 0 → ⊥
        no z = omega (arith, z, own)

        go : (slice_index (stamps_by n es) (slice_index (parents_by n es) w) ≡ 0) ⊎ (slice_index (stamps_by n es) w < slice_index (stamps_by n es) (slice_index (parents_by n es) w))
            → (slice_index (stamps_by n es) (slice_index (parents_by n es) w) ≡ 0) ⊎ (suc k < slice_index (stamps_by n es) (slice_index (parents_by n es) w))
        go (inl z) = inl z
        go (inr l) = inr (subst (λ o. o < slice_index (stamps_by n es) (slice_index (parents_by n es) w)) own l)

    -- one climbs, and doesn't meet the other
    pub climbs-left : slice_index (stamps_by n es) u ≡ suc k → (slice_index (stamps_by n es) v ≡ 0) ⊎ (suc k < slice_index (stamps_by n es) v) → slice_index (parents_by n es) u ≢ v → Climbs n es (stamps_by n es) (x, y) ((slice_index (parents_by n es) u), v)
    climbs-left own later met =
        let says = stamp-says n k es u ok c.low.0 own in
        let px = at_x (below_u own) (is_over u own) in
        let py = at_y (below_u own) (keep v later) in
        record {
          level = suc k;
          low = (parent-low n es u ok c.low.0, c.low.1);
          later_left = above u c.low.0 own;
          later_right = later;
          over_left = next-under k es x says.there (px ∙ sym says.under) ∙ says.above;
          over_right = next-elsewhere k es y says.there (λ r. c.apart (sym says.under ∙ sym r ∙ py)) ∙ py;
          apart = met;
        }

    pub climbs-right : slice_index (stamps_by n es) v ≡ suc k → (slice_index (stamps_by n es) u ≡ 0) ⊎ (suc k < slice_index (stamps_by n es) u) → u ≢ slice_index (parents_by n es) v → Climbs n es (stamps_by n es) (x, y) (u, (slice_index (parents_by n es) v))
    climbs-right own later met =
        let says = stamp-says n k es v ok c.low.1 own in
        let px = at_x (below_v own) (keep u later) in
        let py = at_y (below_v own) (is_over v own) in
        record {
          level = suc k;
          low = (c.low.0, parent-low n es v ok c.low.1);
          later_left = later;
          later_right = above v c.low.1 own;
          over_left = next-elsewhere k es x says.there (λ r. c.apart (sym px ∙ r ∙ says.under)) ∙ px;
          over_right = next-under k es y says.there (py ∙ sym says.under) ∙ says.above;
          apart = met;
        }

    -- one climbs, and meets the other
    pub tops-left : slice_index (stamps_by n es) u ≡ suc k → (slice_index (stamps_by n es) v ≡ 0) ⊎ (suc k < slice_index (stamps_by n es) v) → slice_index (parents_by n es) u ≡ v → Tops es x y k true
    tops-left own later met =
        let says = stamp-says n k es u ok c.low.0 own in
        let px = at_x (below_u own) (is_over u own) in
        let py = at_y (below_u own) (keep v later) in
        (says.there, (λ r. c.apart (sym px ∙ r ∙ py)), px ∙ sym says.under, py ∙ sym met ∙ sym says.above)

    pub tops-right : slice_index (stamps_by n es) v ≡ suc k → (slice_index (stamps_by n es) u ≡ 0) ⊎ (suc k < slice_index (stamps_by n es) u) → u ≡ slice_index (parents_by n es) v → Tops es x y k false
    tops-right own later met =
        let says = stamp-says n k es v ok c.low.1 own in
        let px = at_x (below_v own) (keep u later) in
        let py = at_y (below_v own) (is_over v own) in
        (says.there, (λ r. c.apart (sym px ∙ r ∙ py)), px ∙ met ∙ sym says.above, py ∙ sym says.under)

-- the same of arrays that show the edges
module _ (parents stamps : List ℕ) (edges : List Edge) (s : ArraysShow parents stamps edges) where
  pub by_arrays : (P : List ℕ → List ℕ → Type 0) → P (parents_by (length parents) (reverse edges)) (stamps_by (length parents) (reverse edges)) → P parents stamps
  by_arrays P h = subst (λ us. P us stamps) (sym s.parents_are) (subst (λ os. P (parents_by (length parents) (reverse edges)) os) (sym s.stamps_are) h)

  pub length-stamps_shown : length stamps ≡ length parents
  length-stamps_shown = ap length s.stamps_are ∙ length-stamps (length parents) (reverse edges)

  module _ (x y : ℕ) where
    pub start : x < length parents → y < length parents → x ≢ y → Climbs (length parents) (reverse edges) stamps (x, y) (x, y)
    start hx hy apart = by_arrays (λ us os. Climbs (length parents) (reverse edges) os (x, y) (x, y)) (climbs-start _ _ x y s.apart hx hy apart)

    module _ (u v : ℕ) where
      pub some : Linked (reverse edges) x y → Climbs (length parents) (reverse edges) stamps (x, y) (u, v) → 0 < slice_index stamps u + slice_index stamps v
      some linked = by_arrays (λ us os. Climbs (length parents) (reverse edges) os (x, y) (u, v) → 0 < slice_index os u + slice_index os v) (climbs-some _ _ x y s.apart u v linked)

      pub differ : Linked (reverse edges) x y → Climbs (length parents) (reverse edges) stamps (x, y) (u, v) → slice_index stamps u ≢ slice_index stamps v
      differ linked = by_arrays (λ us os. Climbs (length parents) (reverse edges) os (x, y) (u, v) → slice_index os u ≢ slice_index os v) (climbs-apart _ _ x y s.apart u v linked)

      after : (a b : ℕ) → 0 < a → (b ≡ 0) ⊎ (a < b) → (b ≡ 0) ⊎ (suc (a - 1) < b)
      after a b h (inl e) = inl e
      after a b h (inr l) = inr (omega arith)

      before : (a : ℕ) → 0 < a → a ≡ suc (a - 1)
      before a h = omega arith

      not_none : {a : ℕ} → 0 < a → a ≢ 0
      not_none h e = omega arith

      pub left : Climbs (length parents) (reverse edges) stamps (x, y) (u, v) → IsOlder (slice_index stamps u) (slice_index stamps v) → slice_index parents u ≢ v → Climbs (length parents) (reverse edges) stamps (x, y) ((slice_index parents u), v)
      left = by_arrays (λ us os. Climbs (length parents) (reverse edges) os (x, y) (u, v) → IsOlder (slice_index os u) (slice_index os v) → slice_index us u ≢ v → Climbs (length parents) (reverse edges) os (x, y) ((slice_index us u), v))
          (λ c t m. climbs-left _ _ x y s.apart u v _ c (before _ t.0) (after _ _ t.0 t.1) m)

      pub right : Climbs (length parents) (reverse edges) stamps (x, y) (u, v) → IsOlder (slice_index stamps v) (slice_index stamps u) → u ≢ slice_index parents v → Climbs (length parents) (reverse edges) stamps (x, y) (u, (slice_index parents v))
      right = by_arrays (λ us os. Climbs (length parents) (reverse edges) os (x, y) (u, v) → IsOlder (slice_index os v) (slice_index os u) → u ≢ slice_index us v → Climbs (length parents) (reverse edges) os (x, y) (u, (slice_index us v)))
          (λ c t m. climbs-right _ _ x y s.apart u v _ c (before _ t.0) (after _ _ t.0 t.1) m)

      pub met_left : Climbs (length parents) (reverse edges) stamps (x, y) (u, v) → IsOlder (slice_index stamps u) (slice_index stamps v) → slice_index parents u ≡ v → Tops (reverse edges) x y (slice_index stamps u - 1) true
      met_left = by_arrays (λ us os. Climbs (length parents) (reverse edges) os (x, y) (u, v) → IsOlder (slice_index os u) (slice_index os v) → slice_index us u ≡ v → Tops (reverse edges) x y (slice_index os u - 1) true)
          (λ c t m. tops-left _ _ x y s.apart u v _ c (before _ t.0) (after _ _ t.0 t.1) m)

      pub met_right : Climbs (length parents) (reverse edges) stamps (x, y) (u, v) → IsOlder (slice_index stamps v) (slice_index stamps u) → u ≡ slice_index parents v → Tops (reverse edges) x y (slice_index stamps v - 1) false
      met_right = by_arrays (λ us os. Climbs (length parents) (reverse edges) os (x, y) (u, v) → IsOlder (slice_index os v) (slice_index os u) → u ≡ slice_index us v → Tops (reverse edges) x y (slice_index os v - 1) false)
          (λ c t m. tops-right _ _ x y s.apart u v _ c (before _ t.0) (after _ _ t.0 t.1) m)

      pub less_left : Climbs (length parents) (reverse edges) stamps (x, y) (u, v) → 0 < slice_index stamps u → height stamps (length (reverse edges)) (slice_index parents u) + height stamps (length (reverse edges)) v < height stamps (length (reverse edges)) u + height stamps (length (reverse edges)) v
      less_left = by_arrays (λ us os. Climbs (length parents) (reverse edges) os (x, y) (u, v) → 0 < slice_index os u → height os (length (reverse edges)) (slice_index us u) + height os (length (reverse edges)) v < height os (length (reverse edges)) u + height os (length (reverse edges)) v)
          (λ c t. sum_left _ _ _ (height-less _ (reverse edges) u s.apart c.low.0 (not_none t)))
        where
          sum_left : (a b d : ℕ) → a < b → a + d < b + d
          sum_left a b d h = omega arith

      pub less_right : Climbs (length parents) (reverse edges) stamps (x, y) (u, v) → 0 < slice_index stamps v → height stamps (length (reverse edges)) u + height stamps (length (reverse edges)) (slice_index parents v) < height stamps (length (reverse edges)) u + height stamps (length (reverse edges)) v
      less_right = by_arrays (λ us os. Climbs (length parents) (reverse edges) os (x, y) (u, v) → 0 < slice_index os v → height os (length (reverse edges)) u + height os (length (reverse edges)) (slice_index us v) < height os (length (reverse edges)) u + height os (length (reverse edges)) v)
          (λ c t. sum_right _ _ _ (height-less _ (reverse edges) v s.apart c.low.1 (not_none t)))
        where
          sum_right : (a b d : ℕ) → a < b → d + a < d + b
          sum_right a b d h = omega arith
