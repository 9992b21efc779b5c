-- Clauses that stay move up, one after the other.
use Rattle.std.proofs.Common.{inl, inr, ◌⊎◌, ◌≡◌, ◌<◌, ◌≤◌, ◌+◌, ℕ, zero, suc, true, false, Bool, ltb, if◌then◌else◌, List, [], ◌∷◌, ◌++◌, length, map, set, get_or, All, Contains, refl, sym, ap, ◌∙◌, subst, arith, length-append}
use Rattle.std.proofs.lemmas.Bool.{cases_lt, lt-ltb, ltb-true}
use Rattle.std.proofs.lemmas.List.{get_or_append_left, get_or_push, get_or_default, get_or-set_same, get_or-set_other, length-set}
use Rattle.std.proofs.lemmas.List.Elements.{Contains-append_cases, Contains-get_or, All-push}
use Rattle.proof_log.specs.declared.premises.StepId.{StepId}
use Rattle.proof_log.specs.Logs.{Logged, assumed, stepped, no_logged, premises_in, logged_at, AreEarlier}
use Rattle.proof_log.specs.Keeping.{step_of, was, back}
use Rattle.proof_log.specs.Moving.{IsMarked, IsClosedFrom, new_number, renumbered, Marked, with_marks, IsMoved, IsMoving}
use Rattle.proof_log.proofs.Marks.{same_step}

-- lists that are the same by places
mapped_same : (f g : StepId → StepId) (ps : List StepId) (n : ℕ) → ((p : StepId) → p.0 < n → f p ≡ g p) → All (λ (p : StepId). p.0 < n) ps → map f ps ≡ map g ps
mapped_same f g [] n h all = refl
mapped_same f g (p ∷ ps) n h all = λ i. h p (all 0 p (omega arith)) i ∷ mapped_same f g ps n h (λ k d lt. all (suc k) d (omega (arith, lt))) i

-- the old numbers of premises are those by any list that has the same for them
back_same : (kept more : List StepId) (l : Logged) (n : ℕ) → ((p : StepId) → p.0 < n → was kept p ≡ was more p) → All (λ (p : StepId). p.0 < n) (premises_in l) → back kept l ≡ back more l
back_same kept more (assumed id) n h all = refl
back_same kept more (stepped r ps qs c) n h all = ap (λ xs. stepped r xs qs c) (mapped_same (was kept) (was more) ps n h all)

-- new numbers lead back to the old ones
pub renamed_back : (kept : List StepId) (noted : List ℕ) (from : ℕ) (ps : List StepId) → ((k : ℕ) (d : StepId) → k < length ps → was kept (new_number from noted (get_or ps k d)) ≡ get_or ps k d)
    → map (was kept) (map (new_number from noted) ps) ≡ ps
renamed_back kept noted from [] h = refl
renamed_back kept noted from (p ∷ ps) h = λ i. h 0 p (omega arith) i ∷ renamed_back kept noted from ps (λ k d lt. h (suc k) d (omega (arith, lt))) i

pub renamed_below : (noted : List ℕ) (from to : ℕ) (ps : List StepId) → ((k : ℕ) (d : StepId) → k < length ps → (new_number from noted (get_or ps k d)).0 < to)
    → All (λ (q : StepId). q.0 < to) (map (new_number from noted) ps)
renamed_below noted from to [] h k d lt = absurd (omega (arith, lt))
renamed_below noted from to (p ∷ ps) h zero d lt = h 0 p (omega arith)
renamed_below noted from to (p ∷ ps) h (suc k) d lt = renamed_below noted from to ps (λ j e less. h (suc j) e (omega (arith, less))) k d (omega (arith, lt))

-- a number below the next is below or the same
below_or : (n k : ℕ) → n < suc k → (n < k) ⊎ (n ≡ k)
below_or n k lt = elim (cases_lt n k) as (λ _. (n < k) ⊎ (n ≡ k)) [ inl b ↦ inl b | inr a ↦ inr (omega (arith, a, lt)) ]

moving_unmarked : (from : ℕ) (old : Marked) (k to : ℕ) (now : Marked) → (IsMarked old.marks (step_of k) → ⊥) → IsMoving from old k to now → IsMoving from old (suc k) to now
moving_unmarked from old k to now not_marked h = record {
  kept = h.kept;
  size = h.size;
  to_k = omega (arith, h.to_k);
  from_to = h.from_to;
  size_now = h.size_now;
  size_noted = h.size_noted;
  ascending = h.ascending;
  below = λ j d lt. omega (arith, h.below j d lt);
  only = h.only;
  low = h.low;
  found = λ s le lt m. elim (below_or s.0 k lt) as (λ _. (get_or now.marks s.0 0 < to) × (was h.kept (step_of (get_or now.marks s.0 0)) ≡ s)) [
    | inl b ↦ h.found s le b m
    | inr e ↦ absurd (not_marked (subst (IsMarked old.marks) (same_step s (step_of k) e) m))
  ];
  same = h.same;
  earlier = h.earlier;
  rest = λ s le. h.rest s (omega (arith, le));
  left = λ s le. h.left s (omega (arith, le));
}

module _ (from : ℕ) (old : Marked) (k to : ℕ) (now : Marked) (earlier : AreEarlier old.log) (closed : IsClosedFrom old.log old.marks from from)
    (from_k : from ≤ k) (here : k < length old.log) (sized : length old.marks ≡ length old.log) (marked : IsMarked old.marks (step_of k)) (h : IsMoving from old k to now) where
  abbrev l : Logged
  l = logged_at old.log (step_of k)

  abbrev kept : List StepId
  kept = h.kept ++ step_of k ∷ []

  abbrev next : List Logged
  next = set (set now.log k no_logged) to (renumbered from now.marks l)

  abbrev noted : List ℕ
  noted = set now.marks k to

  -- those before are kept under the same numbers
  first : (s : StepId) → s.0 < to → was kept s ≡ was h.kept s
  first s lt = get_or_append_left h.kept (step_of k ∷ []) (step_of 0) s.0 (omega (arith, lt, h.size))

  last : was kept (step_of to) ≡ step_of k
  last = get_or_push h.kept (step_of k) (step_of 0) to h.size

  -- the new number of a premise leads back to it
  abbrev IsFound : StepId → Type 0
  IsFound p = ((new_number from now.marks p).0 < to) × (was kept (new_number from now.marks p) ≡ p)

  premise : (p : StepId) → Contains (premises_in l) p → IsFound p
  premise p i = go (ltb p.0 from) refl
    where
      low : p.0 < k
      low = subst (λ (x : StepId). x.0 < k) i.2 (earlier k here i.0 p i.1)

      go : (b : Bool) → ltb p.0 from ≡ b → ((if b then p.0 else get_or now.marks p.0 0) < to) × (was kept (step_of (if b then p.0 else get_or now.marks p.0 0)) ≡ p)
      go true is =
          let b : p.0 < from = ltb-true p.0 from is in
          (omega (arith, b, h.from_to), first p (omega (arith, b, h.from_to)) ∙ h.low p b)
      go false is =
          let up : from ≤ p.0 = elim (cases_lt p.0 from) as (λ _. from ≤ p.0) [ inl b ↦ absurd (let e : true ≡ false = sym (lt-ltb p.0 from b) ∙ is in cc) | inr a ↦ a ] in
          let m : IsMarked old.marks p = closed (step_of k) p from_k here marked i up in
          let f = h.found p up low m in
          (f.0, first (step_of (get_or now.marks p.0 0)) f.0 ∙ f.1)

  to_next : to < length (set now.log k no_logged)
  to_next = omega (arith, length-set now.log k no_logged, h.size_now, here, h.to_k)

  next_at : get_or next to no_logged ≡ renumbered from now.marks l
  next_at = get_or-set_same (set now.log k no_logged) to (renumbered from now.marks l) no_logged to_next

  next_other : (j : ℕ) → (j ≡ to → ⊥) → (j ≡ k → ⊥) → get_or next j no_logged ≡ get_or now.log j no_logged
  next_other j a b = get_or-set_other (set now.log k no_logged) to j (renumbered from now.marks l) no_logged a ∙ get_or-set_other now.log k j no_logged no_logged b

  lower : (j : ℕ) → j < to → get_or next j no_logged ≡ get_or now.log j no_logged
  lower j lt = next_other j (λ e. absurd (omega (arith, e, lt))) (λ e. absurd (omega (arith, e, lt, h.to_k)))

  noted_at : get_or noted k 0 ≡ to
  noted_at = get_or-set_same now.marks k to 0 (omega (arith, h.size_noted, sized, here))

  noted_other : (n : ℕ) → (n ≡ k → ⊥) → get_or noted n 0 ≡ get_or now.marks n 0
  noted_other n differs = get_or-set_other now.marks k n to 0 differs

  rename_back : back kept (renumbered from now.marks l) ≡ l
  rename_back = go l premise
    where
      go : (x : Logged) → ((p : StepId) → Contains (premises_in x) p → IsFound p) → back kept (renumbered from now.marks x) ≡ x
      go (assumed id) each = refl
      go (stepped r ps qs c) each = ap (λ xs. stepped r xs qs c) (renamed_back kept now.marks from ps (λ j d lt. (each (get_or ps j d) (Contains-get_or ps j d lt)).1))

  rename_below : All (λ (p : StepId). p.0 < to) (premises_in (renumbered from now.marks l))
  rename_below = go l premise
    where
      go : (x : Logged) → ((p : StepId) → Contains (premises_in x) p → IsFound p) → All (λ (p : StepId). p.0 < to) (premises_in (renumbered from now.marks x))
      go (assumed id) each = λ j d lt. absurd (omega (arith, lt))
      go (stepped r ps qs c) each = renamed_below now.marks from to ps (λ j d lt. (each (get_or ps j d) (Contains-get_or ps j d lt)).0)

  kept_size : length kept ≡ suc to
  kept_size = let e : length kept ≡ length h.kept + 1 = length-append h.kept (step_of k ∷ []) in omega (arith, e, h.size)

  moving_marked : IsMoving from old (suc k) (suc to) (with_marks next noted)
  moving_marked = record {
    kept = kept;
    size = kept_size;
    to_k = omega (arith, h.to_k);
    from_to = omega (arith, h.from_to);
    size_now = length-set (set now.log k no_logged) to (renumbered from now.marks l) ∙ length-set now.log k no_logged ∙ h.size_now;
    size_noted = length-set now.marks k to ∙ h.size_noted;
    ascending = λ i j lt there.
        elim (below_or j to (omega (arith, there, kept_size))) as (λ _. (was kept (step_of i)).0 < (was kept (step_of j)).0) [
          | inl b ↦
              let a = h.ascending i j lt (omega (arith, b, h.size)) in
              omega (arith, a, ap (λ (x : StepId). x.0) (first (step_of i) (omega (arith, lt, b))), ap (λ (x : StepId). x.0) (first (step_of j) b))
          | inr is ↦
              let low : i < to = omega (arith, lt, is) in
              let a = h.below i (step_of 0) (omega (arith, low, h.size)) in
              omega (arith, a, ap (λ (x : StepId). x.0) (first (step_of i) low), ap (λ x. (was kept (step_of x)).0) is, ap (λ (x : StepId). x.0) last)
        ];
    below = All-push (λ (s : StepId). s.0 < suc k) h.kept (step_of k) (λ j d lt. omega (arith, h.below j d lt)) (omega arith);
    only = λ s i. elim (Contains-append_cases h.kept (step_of k ∷ []) s i) as (λ _. (s.0 < from) ⊎ IsMarked old.marks s) [
      | inl a ↦ h.only s a
      | inr b ↦ inr (let z : b.0 ≡ 0 = omega (arith, b.1) in subst (IsMarked old.marks) (ap (λ x. get_or (step_of k ∷ []) x s) (sym z) ∙ b.2) marked)
    ];
    low = λ s lt. first s (omega (arith, lt, h.from_to)) ∙ h.low s lt;
    found = λ s le lt m. elim (below_or s.0 k lt) as (λ _. (get_or noted s.0 0 < suc to) × (was kept (step_of (get_or noted s.0 0)) ≡ s)) [
      | inl b ↦
          let f = h.found s le b m in
          let e : get_or noted s.0 0 ≡ get_or now.marks s.0 0 = noted_other s.0 (λ is. absurd (omega (arith, is, b))) in
          (omega (arith, e, f.0), ap (λ x. was kept (step_of x)) e ∙ first (step_of (get_or now.marks s.0 0)) f.0 ∙ f.1)
      | inr is ↦
          let e : get_or noted s.0 0 ≡ to = ap (λ x. get_or noted x 0) is ∙ noted_at in
          (omega (arith, e), ap (λ x. was kept (step_of x)) e ∙ last ∙ sym (same_step s (step_of k) is))
    ];
    same = λ s lt. elim (below_or s.0 to lt) as (λ _. back kept (logged_at next s) ≡ logged_at old.log (was kept s)) [
      | inl b ↦ ap (back kept) (lower s.0 b) ∙ back_same kept h.kept (logged_at now.log s) s.0 (λ p less. first p (omega (arith, less, b))) (h.earlier s b) ∙ h.same s b ∙ ap (logged_at old.log) (sym (first s b))
      | inr is ↦ ap (λ x. back kept (get_or next x no_logged)) is ∙ ap (back kept) next_at ∙ rename_back ∙ ap (logged_at old.log) (sym (ap (λ x. was kept (step_of x)) is ∙ last))
    ];
    earlier = λ s lt. elim (below_or s.0 to lt) as (λ _. All (λ (p : StepId). p.0 < s.0) (premises_in (logged_at next s))) [
      | inl b ↦ subst (λ x. All (λ (p : StepId). p.0 < s.0) (premises_in x)) (sym (lower s.0 b)) (h.earlier s b)
      | inr is ↦ subst (λ n. All (λ (p : StepId). p.0 < n) (premises_in (get_or next n no_logged))) (sym is) (subst (λ x. All (λ (p : StepId). p.0 < to) (premises_in x)) (sym next_at) rename_below)
    ];
    rest = λ s le. next_other s.0 (λ e. absurd (omega (arith, e, le, h.to_k))) (λ e. absurd (omega (arith, e, le))) ∙ h.rest s (omega (arith, le));
    left = λ s le. noted_other s.0 (λ e. absurd (omega (arith, e, le))) ∙ h.left s (omega (arith, le));
  }

-- what comes of one move
pub moving_on : (from : ℕ) (old : Marked) (k to : ℕ) (now next : Marked) (to_next : ℕ) → AreEarlier old.log → IsClosedFrom old.log old.marks from from → from ≤ k → k < length old.log
    → length old.marks ≡ length old.log → IsMoving from old k to now → IsMoved from k to now next to_next → IsMoving from old (suc k) to_next next
moving_on from old k to now next to_next earlier closed from_k here sized h m =
    let left : get_or now.marks k 0 ≡ get_or old.marks k 0 = h.left (step_of k) (omega arith) in
    let rest : logged_at now.log (step_of k) ≡ logged_at old.log (step_of k) = h.rest (step_of k) (omega arith) in
    elim m as (λ _. IsMoving from old (suc k) to_next next) [
      | inl a ↦
          subst (λ x. IsMoving from old (suc k) x next) (sym a.3)
          (subst (λ x. IsMoving from old (suc k) to x) (λ i. with_marks (sym a.1 i) (sym a.2 i))
          (moving_unmarked from old k to now (λ e. a.0 (left ∙ e)) h))
      | inr b ↦
          let e : next.log ≡ set (set now.log k no_logged) to (renumbered from now.marks (logged_at old.log (step_of k))) = b.1 ∙ ap (λ l. set (set now.log k no_logged) to (renumbered from now.marks l)) rest in
          subst (λ x. IsMoving from old (suc k) x next) (sym b.3)
          (subst (λ x. IsMoving from old (suc k) (suc to) x) (λ i. with_marks (sym e i) (sym b.2 i))
          (moving_marked from old k to now earlier closed from_k here sized (sym left ∙ b.0) h))
    ]

-- the first numbers
upto : ℕ → List StepId
upto zero = []
upto (suc n) = upto n ++ step_of n ∷ []

upto_length : (n : ℕ) → length (upto n) ≡ n
unfolding upto
upto_length zero = refl
upto_length (suc n) = let e : length (upto n ++ step_of n ∷ []) ≡ length (upto n) + 1 = length-append (upto n) (step_of n ∷ []) in omega (arith, e, upto_length n)

upto_at : (n : ℕ) (s : StepId) → s.0 < n → was (upto n) s ≡ s
unfolding upto
upto_at zero s lt = absurd (omega (arith, lt))
upto_at (suc n) s lt = elim (below_or s.0 n lt) as (λ _. was (upto n ++ step_of n ∷ []) s ≡ s) [
  | inl b ↦ get_or_append_left (upto n) (step_of n ∷ []) (step_of 0) s.0 (omega (arith, b, upto_length n)) ∙ upto_at n s b
  | inr e ↦ get_or_push (upto n) (step_of n) (step_of 0) s.0 (omega (arith, e, upto_length n)) ∙ sym (same_step s (step_of n) e)
]

back_none : (n : ℕ) (l : Logged) → All (λ (p : StepId). p.0 < n) (premises_in l) → back (upto n) l ≡ l
back_none n (assumed id) all = refl
back_none n (stepped r ps qs c) all = ap (λ xs. stepped r xs qs c) (mapped_same (was (upto n)) (λ p. p) ps n (λ p lt. upto_at n p lt) all ∙ itself ps)
  where
    itself : (ps : List StepId) → map (λ (p : StepId). p) ps ≡ ps
    itself [] = refl
    itself (p ∷ ps) = λ i. p ∷ itself ps i

pub moving_begun : (from : ℕ) (old : Marked) → AreEarlier old.log → from ≤ length old.log → IsMoving from old from from old
moving_begun from old earlier le = record {
  kept = upto from;
  size = upto_length from;
  to_k = omega arith;
  from_to = omega arith;
  size_now = refl;
  size_noted = refl;
  ascending = λ i j lt there.
      let b : j < from = omega (arith, there, upto_length from) in
      omega (arith, ap (λ (x : StepId). x.0) (upto_at from (step_of i) (omega (arith, lt, b))), ap (λ (x : StepId). x.0) (upto_at from (step_of j) b), lt);
  below = λ j d lt. let b : j < from = omega (arith, lt, upto_length from) in subst (λ (x : StepId). x.0 < from) (sym (get_or_default (upto from) j d (step_of 0) lt ∙ upto_at from (step_of j) b)) b;
  only = λ s i. let b : i.0 < from = omega (arith, i.1, upto_length from) in
      inl (subst (λ (x : StepId). x.0 < from) (sym (upto_at from (step_of i.0) b) ∙ get_or_default (upto from) i.0 (step_of 0) s i.1 ∙ i.2) b);
  low = λ s lt. upto_at from s lt;
  found = λ s above lt m. absurd (omega (arith, above, lt));
  same = λ s lt. back_none from (logged_at old.log s) (λ i d low. let b = earlier s.0 (omega (arith, lt, le)) i d low in omega (arith, b, lt)) ∙ ap (logged_at old.log) (sym (upto_at from s lt));
  earlier = λ s lt. earlier s.0 (omega (arith, lt, le));
  rest = λ s above. refl;
  left = λ s above. refl;
}
