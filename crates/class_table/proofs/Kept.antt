-- The rows of kept rings are whole, and stay what merges make of terms that are each alone.
use Rattle.std.proofs.Common.{arith, ◌≡◌, ◌∙◌, ◌+◌, ◌-◌, ◌<◌, ◌≤◌, ℕ, List, [], ◌∷◌, ◌++◌, All, length, take, replicate, get_or, slice_index, slice_set, vec_capacity, sym, ap, ap₂, subst, subst₂}
use Rattle.std.specs.List.{range_with_len}
use Rattle.std.proofs.lemmas.List.{get_or_default, length_push, length-append}
use Rattle.std.proofs.lemmas.List.FromFn.{length-range_with_len}
use Rattle.class_table.specs.declared.rings.Merge.{Merge}
use Rattle.class_table.specs.declared.rings.Rings.TheInside.{Inside}
use Rattle.class_table.specs.Classes.{renumbered}
use Rattle.class_table.specs.Rings.{walk, set_each, swapped, RingState, RingsFit, MergesFit, state_in, alone, after, after_all, Joins, AreJoins}
use Rattle.class_table.proofs.Lists.{occurrences_two}
use Rattle.class_table.proofs.States.{whole, numbers_forth, next_back, numbers_back, sizes_back, size_kept, from_class, into_class, size_joined}
use Rattle.class_table.proofs.Growth.{length-renumbered, length-numbers, merges_few, joins_push, joins_last, after_push, same_state, terms_more, terms_fewer, shortened}

module _ (r : Inside) (k : MergesFit r) where
  pub kept_whole : RingsFit (state_in r)
  kept_whole = subst RingsFit (sym k.state) (whole (length r.numbers.items) r.merges.items k.joins)

  pub next_inside : All (λ t. t < length r.next.items) r.next.items
  next_inside i d lt = subst (λ x. x < length r.next.items) (sym (get_or_default r.next.items i d 0 lt)) (kept_whole.next_low i lt)

  -- what is read of the class numbers, and of the sizes
  pub number_read : (i x : ℕ) → i < length r.numbers.items → x ≡ get_or r.numbers.items i x → x ≡ slice_index r.numbers.items i
  number_read i x lt e = e ∙ get_or_default r.numbers.items i x 0 lt

  pub size_read : (i x : ℕ) → i < length r.numbers.items → x ≡ get_or r.sizes.items i x → x ≡ slice_index r.sizes.items i
  size_read i x lt e = let low : i < length r.sizes.items = omega (arith, lt, kept_whole.sizes_long) in e ∙ get_or_default r.sizes.items i x 0 low

  -- a merge of two classes, and the sizes that are read for it
  module _ (m : Merge) (j : Joins r.numbers.items m) where
    joins_all : AreJoins (alone (length r.numbers.items)) (r.merges.items ++ m ∷ [])
    joins_all = joins_push (alone (length r.numbers.items)) r.merges.items m k.joins (subst (λ (s : RingState). Joins s.numbers m) k.state j)

    pub room_left : length r.merges.items + 1 ≤ vec_capacity r.merges
    room_left = omega (arith, merges_few (length r.numbers.items) (r.merges.items ++ m ∷ []) joins_all, length_push r.merges.items m, k.room)

    module _ (one other : ℕ) (first : one ≡ get_or r.sizes.items m.from one) (second : other ≡ get_or r.sizes.items m.into other) where
      pub sizes_fit : other + one ≤ length r.numbers.items
      sizes_fit =
          omega (arith, size_read m.from one j.from_in first, size_read m.into other j.into_in second, (from_class (state_in r) m kept_whole j).size, (into_class (state_in r) m kept_whole j).size, occurrences_two m.from m.into r.numbers.items j.apart)

      pub kept_joined : (q : Inside) → q.numbers.items ≡ set_each r.numbers.items m.into (walk r.next.items one m.from)
          → q.next.items ≡ swapped r.next.items m.from m.into → q.sizes.items ≡ slice_set r.sizes.items m.into (other + one)
          → q.merges.items ≡ r.merges.items ++ m ∷ [] → vec_capacity q.merges ≡ vec_capacity r.merges
          → (q.numbers.items ≡ renumbered m.from m.into r.numbers.items) × MergesFit q
      kept_joined q numbers next sizes merges room =
          let size = size_read m.from one j.from_in first in
          let forth : q.numbers.items ≡ renumbered m.from m.into r.numbers.items =
          numbers ∙ ap (λ n. set_each r.numbers.items m.into (walk r.next.items n m.from)) size ∙ numbers_forth (state_in r) m kept_whole j in
          let long : length q.numbers.items ≡ length r.numbers.items = ap length forth ∙ length-renumbered m.from m.into r.numbers.items in
          let sum : other + one ≡ slice_index r.sizes.items m.from + slice_index r.sizes.items m.into = omega (arith, size, size_read m.into other j.into_in second) in (
            forth,
            record {
              state = same_state forth next (sizes ∙ ap (slice_set r.sizes.items m.into) sum)
                  ∙ ap (λ s. after s m) k.state ∙ sym (after_push (alone (length r.numbers.items)) r.merges.items m)
                  ∙ ap₂ (λ n ms. after_all (alone n) ms) (sym long) (sym merges);
              joins = subst₂ (λ n ms. AreJoins (alone n) ms) (sym long) (sym merges) joins_all;
              room = omega (arith, long, room, k.room);
            },
          )

  -- the newest merge, which is undone
  module _ (ms : List Merge) (m : Merge) (split : r.merges.items ≡ ms ++ m ∷ []) where
    abbrev n : ℕ
    n = length r.numbers.items

    abbrev before : RingState
    before = after_all (alone n) ms

    last : AreJoins (alone n) ms × Joins before.numbers m
    last = joins_last (alone n) ms m (subst (AreJoins (alone n)) split k.joins)

    whole_before : RingsFit before
    whole_before = whole n ms last.0

    is_after : state_in r ≡ after before m
    is_after = k.state ∙ ap (after_all (alone n)) split ∙ after_push (alone n) ms m

    long_before : length before.numbers ≡ n
    long_before = length-numbers (alone n) ms ∙ length-range_with_len 0 n

    pub undone_low : (m.from < n) × (m.into < n)
    undone_low = (omega (arith, last.1.from_in, long_before), omega (arith, last.1.into_in, long_before))

    next_before : swapped r.next.items m.from m.into ≡ before.next
    next_before = ap (λ (s : RingState). swapped s.next m.from m.into) is_after ∙ next_back before m whole_before last.1

    pub undone_inside : (next : List ℕ) → next ≡ swapped r.next.items m.from m.into → (n ≡ length next) × All (λ t. t < length next) next
    undone_inside next e =
        subst (λ (xs : List ℕ). (n ≡ length xs) × All (λ t. t < length xs) xs) (sym (e ∙ next_before)) (
          sym (whole_before.next_long ∙ long_before),
          λ i d lt. subst (λ x. x < length before.next) (sym (get_or_default before.next i d 0 lt)) (whole_before.next_low i lt),
        )

    module _ (one other : ℕ) (first : one ≡ get_or r.sizes.items m.from one) (second : other ≡ get_or r.sizes.items m.into other) where
      size_one : one ≡ slice_index before.sizes m.from
      size_one = size_read m.from one undone_low.0 first ∙ ap (λ (s : RingState). slice_index s.sizes m.from) is_after ∙ size_kept before m whole_before last.1

      size_other : other ≡ slice_index (after before m).sizes m.into
      size_other = size_read m.into other undone_low.1 second ∙ ap (λ (s : RingState). slice_index s.sizes m.into) is_after

      pub undone_less : one ≤ other
      undone_less = omega (arith, size_one, size_other, size_joined before m whole_before last.1)

      pub kept_undone : (q : Inside) → q.numbers.items ≡ set_each r.numbers.items m.from (walk q.next.items one m.from)
          → q.next.items ≡ swapped r.next.items m.from m.into → q.sizes.items ≡ slice_set r.sizes.items m.into (other - one)
          → q.merges.items ≡ ms → vec_capacity q.merges ≡ vec_capacity r.merges
          → (length q.numbers.items ≡ length r.numbers.items) × MergesFit q
      kept_undone q numbers next sizes merges room =
          let back : q.next.items ≡ before.next = next ∙ next_before in
          let numbers_are : q.numbers.items ≡ before.numbers =
          numbers ∙ ap₂ (λ xs size. set_each r.numbers.items m.from (walk xs size m.from)) back size_one
          ∙ ap (λ (s : RingState). set_each s.numbers m.from (walk before.next (slice_index before.sizes m.from) m.from)) is_after
          ∙ numbers_back before m whole_before last.1 in
          let sizes_are : q.sizes.items ≡ before.sizes =
          sizes ∙ ap₂ (λ a b. slice_set r.sizes.items m.into (a - b)) size_other size_one
          ∙ ap (λ (s : RingState). slice_set s.sizes m.into (slice_index (after before m).sizes m.into - slice_index before.sizes m.from)) is_after
          ∙ sizes_back before m whole_before last.1 in
          let long : length q.numbers.items ≡ n = ap length numbers_are ∙ long_before in (
            long,
            record {
              state = same_state numbers_are back sizes_are ∙ ap₂ (λ k xs. after_all (alone k) xs) (sym long) (sym merges);
              joins = subst₂ (λ k xs. AreJoins (alone k) xs) (sym long) (sym merges) last.0;
              room = omega (arith, long, room, k.room);
            },
          )

  -- more terms, each alone
  pub kept_grown : (q : Inside) (more : ℕ) → q.numbers.items ≡ r.numbers.items ++ range_with_len (length r.numbers.items) more
      → q.next.items ≡ r.next.items ++ range_with_len (length r.numbers.items) more → q.sizes.items ≡ r.sizes.items ++ replicate more 1
      → q.merges.items ≡ r.merges.items → length q.numbers.items ≤ vec_capacity q.merges → MergesFit q
  kept_grown q more numbers next sizes merges room =
      let n = length r.numbers.items in
      let g = terms_more n more r.merges.items k.joins in
      let long : length q.numbers.items ≡ n + more = omega (arith, ap length numbers, length-append r.numbers.items (range_with_len n more), length-range_with_len n more) in
      record {
        state = same_state numbers next sizes
            ∙ ap (λ (s : RingState). record { numbers = s.numbers ++ range_with_len (length s.numbers) more; next = s.next ++ range_with_len (length s.numbers) more; sizes = s.sizes ++ replicate more 1 }) k.state
            ∙ sym g.1 ∙ ap₂ (λ i ms. after_all (alone i) ms) (sym long) (sym merges);
        joins = subst₂ (λ i ms. AreJoins (alone i) ms) (sym long) (sym merges) g.0;
        room = room;
      }

  -- the first terms alone, which all merges are of
  pub kept_cut : (q : Inside) (terms : ℕ) → terms ≤ length r.numbers.items → AreJoins (alone terms) r.merges.items
      → q.numbers.items ≡ take terms r.numbers.items → q.next.items ≡ take terms r.next.items → q.sizes.items ≡ take terms r.sizes.items
      → q.merges.items ≡ r.merges.items → vec_capacity q.merges ≡ vec_capacity r.merges
      → (q.numbers.items ≡ (after_all (alone terms) r.merges.items).numbers) × (length q.numbers.items ≡ terms) × MergesFit q
  kept_cut q terms few j numbers next sizes merges room =
      let n = length r.numbers.items in
      let e : state_in q ≡ after_all (alone terms) r.merges.items =
      same_state numbers next sizes ∙ ap (shortened terms) k.state ∙ terms_fewer terms n r.merges.items few j in
      let long : length q.numbers.items ≡ terms = ap (λ (s : RingState). length s.numbers) e ∙ length-numbers (alone terms) r.merges.items ∙ length-range_with_len 0 terms in (
        ap (λ (s : RingState). s.numbers) e,
        long,
        record {
          state = e ∙ ap₂ (λ i ms. after_all (alone i) ms) (sym long) (sym merges);
          joins = subst₂ (λ i ms. AreJoins (alone i) ms) (sym long) (sym merges) j;
          room = omega (arith, long, room, few, k.room);
        },
      )
