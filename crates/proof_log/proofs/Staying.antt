-- What was marked and moved is what should stay.
use Rattle.std.proofs.Common.{inl, inr, ◌⊎◌, ◌≡◌, ◌<◌, ◌≤◌, ℕ, true, false, Bool, ltb, if◌then◌else◌, List, length, map, take, get_or, All, Contains, refl, sym, ap, ◌∙◌, subst, arith, length-take}
use Rattle.std.proofs.lemmas.Bool.{cases_lt, lt-ltb, ltb-true}
use Rattle.std.proofs.lemmas.List.{ext_get_or, length-map, get_or-map, get_or-take, get_or_past, get_or_default}
use Rattle.proof_log.specs.declared.premises.StepId.{StepId}
use Rattle.proof_log.specs.Logs.{Logged, logged_at, no_logged, premises_in, AreStepsOf, AreEarlier}
use Rattle.proof_log.specs.Reaches.{RestsOn, itself, by_premise}
use Rattle.proof_log.specs.Keeping.{step_of, was, back, Stays, IsKeeping}
use Rattle.proof_log.specs.Moving.{IsMarked, Comes, IsClosedFrom, new_number, Marked, IsMoving}
use Rattle.proof_log.proofs.Scopes.{rests_over}
use Rattle.proof_log.proofs.Moving.{renamed_back, renamed_below}

module _ (from : ℕ) (old : Marked) (names : List StepId) (named : List ℕ) (to : ℕ) (now : Marked) (earlier : AreEarlier old.log)
    (sized : length named ≡ length old.log)
    (names_in : AreStepsOf old.log names)
    (are_named : (s : StepId) → from ≤ s.0 → s.0 < length old.log → IsMarked named s → Contains names s)
    (each_named : (s : StepId) → from ≤ s.0 → Contains names s → IsMarked named s)
    (stay_named : (s : StepId) → IsMarked named s → IsMarked old.marks s)
    (comes : (s : StepId) → IsMarked old.marks s → Comes old.log named s)
    (closed : IsClosedFrom old.log old.marks from from)
    (h : IsMoving from old (length old.log) to now) where
  -- what a marked one rests on is marked
  reaches_marked : (s n : StepId) → s.0 < length old.log → RestsOn old.log s n → from ≤ n.0 → IsMarked old.marks s → IsMarked old.marks n
  reaches_marked s _ lt (itself _) up m = m
  reaches_marked s n lt (by_premise _ p _ i rests) up m =
      let low : p.0 < s.0 = subst (λ (x : StepId). x.0 < s.0) i.2 (earlier s.0 lt i.0 p i.1) in
      let above = (rests_over old.log earlier p n (omega (arith, low, lt)) rests).0 in
      reaches_marked p n (omega (arith, low, lt)) rests up (closed s p (omega (arith, up, above, low)) lt m i (omega (arith, up, above)))

  -- where it is then
  stands : (s : StepId) → s.0 < length old.log → (s.0 < from) ⊎ IsMarked old.marks s → ((new_number from now.marks s).0 < to) × (was h.kept (new_number from now.marks s) ≡ s)
  stands s lt stays = go (ltb s.0 from) refl
    where
      go : (b : Bool) → ltb s.0 from ≡ b → ((if b then s.0 else get_or now.marks s.0 0) < to) × (was h.kept (step_of (if b then s.0 else get_or now.marks s.0 0)) ≡ s)
      go true is = let b : s.0 < from = ltb-true s.0 from is in (omega (arith, b, h.from_to), h.low s b)
      go false is =
          let up : from ≤ s.0 = elim (cases_lt s.0 from) as (λ _. from ≤ s.0) [ inl b ↦ absurd (let e : true ≡ false = sym (lt-ltb s.0 from b) ∙ is in cc) | inr a ↦ a ] in
          h.found s up lt (elim stays as (λ _. IsMarked old.marks s) [ inl b ↦ absurd (omega (arith, b, up)) | inr m ↦ m ])

  -- what should stay is one of the first or marked
  should : (s : StepId) → s.0 < length old.log → Stays old.log from names s → (s.0 < from) ⊎ IsMarked old.marks s
  should s lt stays = elim stays as (λ _. (s.0 < from) ⊎ IsMarked old.marks s) [
    | inl b ↦ inl b
    | inr x ↦ elim (cases_lt s.0 from) as (λ _. (s.0 < from) ⊎ IsMarked old.marks s) [
      | inl b ↦ inl b
      | inr up ↦
          let named_in : x.0.0 < length old.log = subst (λ (y : StepId). y.0 < length old.log) x.1.2 (names_in x.1.0 x.0 x.1.1) in
          let above = (rests_over old.log earlier x.0 s named_in x.2).0 in
          inr (reaches_marked x.0 s named_in x.2 up (stay_named x.0 (each_named x.0 (omega (arith, up, above)) x.1)))
    ]
  ]

  -- and what is marked should stay
  marked_stays : (s : StepId) → s.0 < length old.log → IsMarked old.marks s → Stays old.log from names s
  marked_stays s lt m = elim (cases_lt s.0 from) as (λ _. Stays old.log from names s) [
    | inl b ↦ inl b
    | inr up ↦
        let c = comes s m in
        let there : c.0.0 < length old.log = elim (cases_lt c.0.0 (length old.log)) as (λ _. c.0.0 < length old.log) [
          | inl b ↦ b
          | inr a ↦ absurd (let e : 0 ≡ 1 = sym (get_or_past named c.0.0 0 (omega (arith, a, sized))) ∙ c.1 in omega (arith, e))
        ] in
        let above = (rests_over old.log earlier c.0 s there c.2).0 in
        inr (c.0, are_named c.0 (omega (arith, up, above)) there c.1, c.2)
  ]

  -- a name is that of one that stays
  name_stays : (k : ℕ) (d : StepId) → k < length names → ((get_or names k d).0 < from) ⊎ IsMarked old.marks (get_or names k d)
  name_stays k d lt = elim (cases_lt (get_or names k d).0 from) as (λ _. ((get_or names k d).0 < from) ⊎ IsMarked old.marks (get_or names k d)) [
    | inl b ↦ inl b
    | inr up ↦ inr (stay_named (get_or names k d) (each_named (get_or names k d) up (k, lt, get_or_default names k (get_or names k d) d lt)))
  ]

  to_now : to ≤ length now.log
  to_now = omega (arith, h.to_k, h.size_now)

  size : length (take to now.log) ≡ to
  size = omega (arith, length-take to now.log, to_now)

  pub keeping : IsKeeping old.log from names (take to now.log) (map (new_number from now.marks) names)
  keeping = record {
    kept = h.kept;
    ascending = h.ascending;
    first = λ s below lt. h.low s below;
    there = h.below;
    only = λ s i. elim (h.only s i) as (λ _. Stays old.log from names s) [
      | inl b ↦ inl b
      | inr m ↦ marked_stays s (subst (λ (x : StepId). x.0 < length old.log) i.2 (h.below i.0 s i.1)) m
    ];
    each = λ s lt stays.
        let t = stands s lt (should s lt stays) in
        let place = (new_number from now.marks s).0 in
        let low : place < length h.kept = omega (arith, t.0, h.size) in
        (place, low, get_or_default h.kept place s (step_of 0) low ∙ t.1);
    same = ext_get_or no_logged (map (back h.kept) (take to now.log)) (map (logged_at old.log) h.kept)
        (length-map (take to now.log) (back h.kept) ∙ size ∙ sym h.size ∙ sym (length-map h.kept (logged_at old.log)))
        (λ j lt.
        let low : j < to = omega (arith, lt, length-map (take to now.log) (back h.kept), size) in
        get_or-map (back h.kept) (take to now.log) j no_logged no_logged (omega (arith, low, size)) ∙ ap (back h.kept) (get_or-take to now.log j no_logged low) ∙ h.same (step_of j) low
        ∙ sym (get_or-map (logged_at old.log) h.kept j (step_of 0) no_logged (omega (arith, low, h.size))));
    earlier = λ j lt.
        let low : j < to = omega (arith, lt, size) in
        subst (λ l. All (λ (p : StepId). p.0 < j) (premises_in l)) (sym (get_or-take to now.log j no_logged low)) (h.earlier (step_of j) low);
    names_there = subst (λ n. All (λ (q : StepId). q.0 < n) (map (new_number from now.marks) names)) (sym size)
        (renamed_below now.marks from to names (λ k d lt. (stands (get_or names k d) (names_in k d lt) (name_stays k d lt)).0));
    names_same = renamed_back h.kept now.marks from names (λ k d lt. (stands (get_or names k d) (names_in k d lt) (name_stays k d lt)).1);
  }

-- where no clause is after the first, they stay whatever is named
pub keeping_fewer : (old : List Logged) (len from : ℕ) (names : List StepId) (new : List Logged) (renamed : List StepId)
    → (from ≤ len) → ((s : StepId) → s.0 < length old → s.0 < len → s.0 < from)
    → IsKeeping old from names new renamed → IsKeeping old len names new renamed
keeping_fewer old len from names new renamed le same h = record {
  kept = h.kept;
  ascending = h.ascending;
  first = λ s below lt. h.first s (same s lt below) lt;
  there = h.there;
  only = λ s i. elim (h.only s i) as (λ _. Stays old len names s) [ inl b ↦ inl (omega (arith, b, le)) | inr x ↦ inr x ];
  each = λ s lt stays. h.each s lt (elim stays as (λ _. Stays old from names s) [ inl b ↦ inl (same s lt b) | inr x ↦ inr x ]);
  same = h.same;
  earlier = h.earlier;
  names_there = h.names_there;
  names_same = h.names_same;
}
