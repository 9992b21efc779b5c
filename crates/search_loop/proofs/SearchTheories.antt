-- How a theory keeps up with a trail: as literals come, with a decision, and where levels are taken back.
use Rattle.std.proofs.Common.{◌≡◌, ◌≢◌, ℕ, zero, suc, ◌+◌, ◌-◌, ◌<◌, ◌≤◌, List, [], ◌∷◌, ◌++◌, length, get_or, take, drop, All, AllPairs, Contains, inl, inr, refl, sym, ap, ◌∙◌, subst, arith}
use Rattle.std.specs.Prelude.{Option, None}
use Rattle.std.proofs.lemmas.Bool.{cases_lt}
use Rattle.std.proofs.lemmas.List.{append_assoc, take_more, take-append-drop, length-append, length-take-le, get_or_default, get_or_append_left, get_or-append-add, get_or-take, take-append-le, take-take, take_all}
use Rattle.std.proofs.lemmas.List.Elements.{All-nil, All-push, All-take}
use Rattle.std.proofs.Math.Seq.{get_or-append_seam, take-length}
use Rattle.term_core.specs.declared.ids.TermId.{TermId}
use Rattle.term_core.specs.declared.ids.Lit.{Lit}
use Rattle.proof_log.specs.Theories.{Mark, no_mark, TheoryView, mark_now, with_mark, at_mark, gone_back}
use Rattle.sat_trail.specs.Trails.{TrailView, no_lit, VariablesAreApart, IsPushed, IsCutTo, IsLeveled}
use Rattle.clause_store.specs.Stores.{StoreView}
use Rattle.clause_store.specs.Propagating.{AddsImplied}
use Rattle.conflict_learn.proofs.Following.{no_reason}
use Rattle.conflict_learn.proofs.Places.{early_place}
use Rattle.term_clauses.specs.SpokenTerms.{no_id}
use Rattle.search_loop.specs.Asking.{MarksRise, KeepsUp}

-- at the beginning
pub keeps_begun : (v : TheoryView) (a : TrailView) → v.held ≡ [] → v.marks ≡ [] → a.literals ≡ [] → a.level ≡ 0 → KeepsUp v a
keeps_begun v a held marks literals level = record {
  within = omega (arith, ap length held);
  front = held ∙ (λ i. take (length (sym held i)) []) ∙ (λ i. take (length v.held) (sym literals i));
  marked = ap length marks ∙ sym level;
  starts = λ k p lt none at. absurd (omega (arith, lt, ap length literals));
  reached = λ p lt none. absurd (omega (arith, lt, ap length literals));
  watched = subst (All (λ (m : Mark). m.watched ≡ length v.watched)) (sym marks) (All-nil (λ (m : Mark). m.watched ≡ length v.watched));
}

-- literals are implied
module _ (v : TheoryView) (s : StoreView) (a b : TrailView) (levels : length a.levels ≡ length a.literals) (reasons : length a.reasons ≡ length a.literals) (x : AddsImplied s a b) (h : KeepsUp v a) where
  -- no decision came
  early : (p : ℕ) → p < length b.literals → get_or b.reasons p None ≡ None → p < length a.literals
  early p lt none = elim (cases_lt p (length a.literals)) [
    | inl small ↦ small
    | inr from ↦
        let k = p - length a.literals in
        let is : length a.reasons + k ≡ p = omega (arith, from, reasons) in
        let small : k < length x.more = omega (arith, from, lt, ap length x.literals, length-append a.literals x.more) in
        let same : get_or x.why k None ≡ get_or b.reasons p None = sym (get_or-append-add a.reasons x.why k None) ∙ (λ i. get_or (sym x.reasons i) (is i) None) in
        absurd (no_reason (get_or x.why k None) _ (same ∙ none) (x.implied k small).reason_is)
  ]

  reason : (p : ℕ) → p < length a.literals → get_or a.reasons p None ≡ get_or b.reasons p None
  reason p small = sym (get_or_append_left a.reasons x.why None p (omega (arith, small, reasons))) ∙ ap (λ (rs : List (Option ℕ)). get_or rs p None) (sym x.reasons)

  level : (p : ℕ) → p < length a.literals → get_or a.levels p 0 ≡ get_or b.levels p 0
  level p small = sym (get_or_append_left a.levels _ 0 p (omega (arith, small, levels))) ∙ ap (λ (ns : List ℕ). get_or ns p 0) (sym x.levels)

  pub keeps_propagated : KeepsUp v b
  keeps_propagated = record {
    within = omega (arith, h.within, ap length x.literals, length-append a.literals x.more);
    front = h.front ∙ sym (take-append-le (length v.held) a.literals x.more h.within) ∙ ap (take (length v.held)) (sym x.literals);
    marked = h.marked ∙ sym x.level;
    starts = λ k p lt none at. let small = early p lt none in h.starts k p small (reason p small ∙ none) (level p small ∙ at);
    reached = λ p lt none. let small = early p lt none in h.reached p small (reason p small ∙ none);
    watched = h.watched;
  }

-- what holds is held
abbrev pub fed : TheoryView → List Lit → TheoryView
fed v ls = record { held = ls; watched = v.watched; marks = v.marks }

pub keeps_fed : (v : TheoryView) (a : TrailView) → KeepsUp v a → KeepsUp (fed v a.literals) a
keeps_fed v a h = record {
  within = omega arith;
  front = sym (take-length a.literals);
  marked = h.marked;
  starts = h.starts;
  reached = λ p lt none. omega (arith, lt);
  watched = h.watched;
}

-- a level begins
module _ (v : TheoryView) (a b : TrailView) (l : Lit) (leveled : IsLeveled a) (x : IsPushed a l None (a.level + 1) b) (h : KeepsUp v a) (all : v.held ≡ a.literals) where
  module _ (p : ℕ) (lt : p < length b.literals) (none : get_or b.reasons p None ≡ None) where
    last : length a.literals ≤ p → p ≡ length a.literals
    last from = omega (arith, from, lt, ap length x.literals, length-append a.literals (l ∷ []))

    reason_at : p < length a.literals → get_or a.reasons p None ≡ None
    reason_at small = sym (get_or_append_left a.reasons (None ∷ []) None p (omega (arith, small, leveled.reasons_paired))) ∙ ap (λ (rs : List (Option ℕ)). get_or rs p None) (sym x.reasons) ∙ none

    level_at : p < length a.literals → get_or b.levels p 0 ≡ get_or a.levels p 0
    level_at small = ap (λ (ns : List ℕ). get_or ns p 0) x.levels ∙ get_or_append_left a.levels ((a.level + 1) ∷ []) 0 p (omega (arith, small, leveled.levels_paired))

    level_last : p ≡ length a.literals → get_or b.levels p 0 ≡ a.level + 1
    level_last is = (λ i. get_or (x.levels i) ((is ∙ sym leveled.levels_paired) i) 0) ∙ get_or-append_seam a.levels (a.level + 1) [] 0

    start : (k : ℕ) → get_or b.levels p 0 ≡ k + 1 → (get_or (v.marks ++ mark_now v ∷ []) k no_mark).held ≡ p
    start k at = elim (cases_lt p (length a.literals)) [
      | inl small ↦
          let low = leveled.topped p small in
          let own : get_or a.levels p 0 ≡ k + 1 = sym (level_at small) ∙ at in
          ap (λ (m : Mark). m.held) (get_or_append_left v.marks (mark_now v ∷ []) no_mark k (omega (arith, low, own, h.marked))) ∙ h.starts k p small (reason_at small) own
      | inr from ↦
          let is = last from in
          let place : k ≡ length v.marks = omega (arith, level_last is, at, h.marked) in
          ap (λ (m : Mark). m.held) ((λ i. get_or (v.marks ++ mark_now v ∷ []) (place i) no_mark) ∙ get_or-append_seam v.marks (mark_now v) [] no_mark) ∙ ap length all ∙ sym is
    ]

  pub keeps_decided : KeepsUp (with_mark v) b
  keeps_decided = record {
    within = omega (arith, ap length all, ap length x.literals, length-append a.literals (l ∷ []));
    front = h.front ∙ sym (take-append-le (length v.held) a.literals (l ∷ []) h.within) ∙ ap (take (length v.held)) (sym x.literals);
    marked = omega (arith, length-append v.marks (mark_now v ∷ []), h.marked, x.level);
    starts = λ k p lt none at. start p lt none k at;
    reached = λ p lt none. omega (arith, lt, ap length all, ap length x.literals, length-append a.literals (l ∷ []));
    watched = All-push (λ (m : Mark). m.watched ≡ length v.watched) v.marks (mark_now v) h.watched refl;
  }

-- levels are taken back
module _ (v : TheoryView) (a : TrailView) (h : KeepsUp v a) (leveled : IsLeveled a) where
  abbrev mark : ℕ → Mark
  mark k = get_or v.marks k no_mark

  -- where the decision of a level is
  abbrev begins : (k : ℕ) → k < a.level → (p : ℕ) × (p < length a.literals) × (get_or a.reasons p None ≡ None) × (get_or a.levels p 0 ≡ k + 1)
  begins k lt = leveled.begun k lt

  held_at : (k : ℕ) (lt : k < a.level) → (mark k).held ≡ (begins k lt).0
  held_at k lt = let d = begins k lt in h.starts k d.0 d.1 d.2 d.3

  watched_at : (k : ℕ) → k < a.level → (mark k).watched ≡ length v.watched
  watched_at k lt = h.watched k no_mark (omega (arith, lt, h.marked))

  pub rising : MarksRise v
  rising j lt =
      let one : j < a.level = omega (arith, lt, h.marked) in
      let two : suc j < a.level = omega (arith, lt, h.marked) in
      let d = begins j one in
      let e = begins (suc j) two in
      let order : d.0 ≤ e.0 = elim (cases_lt e.0 d.0) [
        | inl before ↦ let up = leveled.rising e.0 d.0 before d.1 in absurd (omega (arith, up, d.3, e.3))
        | inr le ↦ le
      ] in
      (omega (arith, order, held_at j one, held_at (suc j) two), omega (arith, watched_at j one, watched_at (suc j) two))

  module _ (n : ℕ) (below : n < a.level) (b : TrailView) (cut : IsCutTo a n b) where
    abbrev place : ℕ
    place = (begins n below).0

    kept_is : cut.kept ≡ place
    kept_is =
        let d = begins n below in
        let up : cut.kept ≤ d.0 = elim (cases_lt d.0 cut.kept) [
          | inl lt ↦ let low = cut.below d.0 lt in absurd (omega (arith, low, d.3))
          | inr le ↦ le
        ] in
        let down : d.0 ≤ cut.kept = elim (cases_lt cut.kept d.0) [
          | inl lt ↦
              let high = cut.above cut.kept (omega arith) (omega (arith, lt, d.1)) in
              let under = leveled.decided_above cut.kept d.0 lt d.1 d.2 in
              absurd (omega (arith, high, under, d.3))
          | inr le ↦ le
        ] in
        omega (arith, up, down)

    mark_is : (mark n).held ≡ cut.kept
    mark_is = held_at n below ∙ sym kept_is

    all_held : cut.kept ≤ length v.held
    all_held = let d = begins n below in let r = h.reached d.0 d.1 d.2 in omega (arith, r, kept_is)

    -- all that is left is held
    pub held_back : (at_mark v n).held ≡ b.literals
    held_back = ap (λ (k : ℕ). take k v.held) mark_is ∙ ap (take cut.kept) h.front ∙ take-take cut.kept (length v.held) a.literals all_held ∙ sym cut.literals

    pub watched_back : (at_mark v n).watched ≡ v.watched
    watched_back = take_all (mark n).watched v.watched (omega (arith, watched_at n below))

    kept_before : (p : ℕ) → p < length b.literals → p < cut.kept
    kept_before p lt = omega (arith, lt, ap length cut.literals, length-take-le cut.kept a.literals cut.within)

    inside : (p : ℕ) → p < cut.kept → p < length a.literals
    inside p small = omega (arith, small, cut.within)

    kept_reason : (p : ℕ) → p < cut.kept → get_or a.reasons p None ≡ get_or b.reasons p None
    kept_reason p small = sym (get_or-take cut.kept a.reasons p None small) ∙ ap (λ (rs : List (Option ℕ)). get_or rs p None) (sym cut.reasons)

    kept_level : (p : ℕ) → p < cut.kept → get_or a.levels p 0 ≡ get_or b.levels p 0
    kept_level p small = sym (get_or-take cut.kept a.levels p 0 small) ∙ ap (λ (ns : List ℕ). get_or ns p 0) (sym cut.levels)

    pub keeps_back : KeepsUp (at_mark v n) b
    keeps_back = record {
      within = omega (arith, ap length held_back);
      front = held_back ∙ sym (take-length b.literals) ∙ (λ i. take (length (sym held_back i)) b.literals);
      marked = length-take-le n v.marks (omega (arith, below, h.marked)) ∙ sym cut.level_is;
      starts = λ k p lt none at.
          let small = kept_before p lt in
          let low = cut.below p small in
          let own = kept_level p small ∙ at in
          ap (λ (m : Mark). m.held) (get_or-take n v.marks k no_mark (omega (arith, low, own))) ∙ h.starts k p (inside p small) (kept_reason p small ∙ none) own;
      reached = λ p lt none. omega (arith, lt, ap length held_back);
      watched = subst (λ (ids : List TermId). All (λ (m : Mark). m.watched ≡ length ids) (take n v.marks)) (sym watched_back) (All-take (λ (m : Mark). m.watched ≡ length v.watched) n v.marks h.watched);
    }

-- over so many marks, and not none
pub gone_is : (n : ℕ) (v : TheoryView) → 0 < n → gone_back n v ≡ at_mark v (length v.marks - n)
gone_is zero v lt = absurd (omega (arith, lt))
gone_is (suc n) v lt = refl

-- one mark more
pub back_more : (v : TheoryView) (n : ℕ) → MarksRise v → n + 1 ≤ length v.marks → gone_back 1 (gone_back n v) ≡ gone_back (n + 1) v
back_more v zero rising le = refl
back_more v (suc n) rising le = together
  where
    j : ℕ
    j = length v.marks - suc (suc n)

    next : suc j ≡ length v.marks - suc n
    next = omega (arith, le)

    steps : (get_or v.marks j no_mark).held ≤ (get_or v.marks (suc j) no_mark).held
    steps = (rising j (omega (arith, le))).0

    watches : (get_or v.marks j no_mark).watched ≤ (get_or v.marks (suc j) no_mark).watched
    watches = (rising j (omega (arith, le))).1

    fewer : length (take (suc j) v.marks) ≡ suc j
    fewer = length-take-le (suc j) v.marks (omega (arith, le))

    same_mark : get_or (take (suc j) v.marks) j no_mark ≡ get_or v.marks j no_mark
    same_mark = get_or-take (suc j) v.marks j no_mark (omega arith)

    twice : at_mark (at_mark v (suc j)) j ≡ at_mark v j
    twice i = record {
      held = (ap (λ (m : Mark). take m.held (take (get_or v.marks (suc j) no_mark).held v.held)) same_mark ∙ take-take (get_or v.marks j no_mark).held (get_or v.marks (suc j) no_mark).held v.held steps) i;
      watched = (ap (λ (m : Mark). take m.watched (take (get_or v.marks (suc j) no_mark).watched v.watched)) same_mark ∙ take-take (get_or v.marks j no_mark).watched (get_or v.marks (suc j) no_mark).watched v.watched watches) i;
      marks = take-take j (suc j) v.marks (omega arith) i;
    }

    last : length (take (suc j) v.marks) - 1 ≡ j
    last = omega (arith, fewer)

    more : suc n + 1 ≡ suc (suc n)
    more = omega arith

    together : gone_back 1 (at_mark v (length v.marks - suc n)) ≡ gone_back (suc n + 1) v
    together =
        ap (λ (k : ℕ). gone_back 1 (at_mark v k)) (sym next)
        ∙ ap (at_mark (at_mark v (suc j))) last
        ∙ twice
        ∙ ap (λ (k : ℕ). gone_back k v) (sym more)

-- so many marks are left
pub marks_left : (v : TheoryView) (n : ℕ) → n ≤ length v.marks → length (gone_back n v).marks ≡ length v.marks - n
marks_left v zero le = omega arith
marks_left v (suc n) le = length-take-le (length v.marks - suc n) v.marks (omega arith)

-- a literal of a place is none of those before it
pub new_at : (ls : List Lit) → VariablesAreApart ls → (k : ℕ) → k < length ls → Contains (take k ls) (get_or ls k no_lit) → ⊥
new_at ls once k lt i =
    let e = early_place ls k (get_or ls k no_lit) (omega (arith, lt)) i in
    once e.0 k no_lit e.1 lt (ap (λ (l : Lit). l.term) e.3)

-- these terms are watched
abbrev pub watching : TheoryView → List TermId → TheoryView
watching v ids = record { held = v.held; watched = ids; marks = v.marks }

-- a number of a place is none of those before it, where none stands twice
pub new_after : (before ids : List TermId) → AllPairs (λ (i j : TermId). i ≢ j) (before ++ ids) → (k : ℕ) → k < length ids → Contains (before ++ take k ids) (get_or ids k no_id) → ⊥
new_after before ids once k lt i =
    let id = get_or ids k no_id in
    let front = before ++ take k ids in
    let short : length front ≡ length before + k = length-append before (take k ids) ∙ ap (λ (n : ℕ). length before + n) (length-take-le k ids (omega (arith, lt))) in
    let whole : front ++ drop k ids ≡ before ++ ids = append_assoc before (take k ids) (drop k ids) ∙ ap (λ (xs : List TermId). before ++ xs) (take-append-drop k ids) in
    let early : get_or (before ++ ids) i.0 no_id ≡ id =
    ap (λ (xs : List TermId). get_or xs i.0 no_id) (sym whole) ∙ get_or_append_left front (drop k ids) no_id i.0 i.1 ∙ sym (get_or_default front i.0 id no_id i.1) ∙ i.2 in
    once i.0 (length before + k) no_id (omega (arith, i.1, short)) (omega (arith, length-append before ids, lt)) (early ∙ sym (get_or-append-add before ids k no_id))

-- one term more, after those before
pub watched_more : (before ids : List TermId) (k : ℕ) → k < length ids → (before ++ take k ids) ++ get_or ids k no_id ∷ [] ≡ before ++ take (k + 1) ids
watched_more before ids k lt = append_assoc before (take k ids) (get_or ids k no_id ∷ []) ∙ ap (λ (xs : List TermId). before ++ xs) (sym (take_more ids k no_id lt))

-- over all marks of levels above one
pub went_back : (v w : TheoryView) (a : TrailView) (n m : ℕ) → KeepsUp v a → n < a.level → m ≡ a.level - n → w ≡ gone_back m v → w ≡ at_mark v n
went_back v w a n m h below is e =
    let left : length v.marks - m ≡ n = omega (arith, is, below, h.marked) in
    e ∙ gone_is m v (omega (arith, is, below)) ∙ ap (at_mark v) left
