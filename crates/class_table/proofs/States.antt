-- What merges make of terms that are each alone is whole, and each can be taken back.
use Rattle.std.proofs.Common.{arith, ◌≡◌, ◌≢◌, ◌∙◌, ◌⊎◌, ℕ, ◌+◌, ◌-◌, ◌<◌, ◌≤◌, ◌==◌, ◌&&◌, nat_lt, List, [], ◌∷◌, length, replicate, slice_index, slice_set, if◌then◌else◌, inl, inr, refl, sym, ap, subst, length-set, get_or-set_same, get_or-set_other}
use Rattle.std.specs.List.{range_with_len}
use Rattle.std.proofs.lemmas.Grind.{same_number_lists}
use Rattle.std.proofs.lemmas.Bool.{cases_eq, cases_lt}
use Rattle.std.proofs.lemmas.Bool.Decides.{nat_tests}
use Rattle.std.proofs.lemmas.List.{length-map, get_or-map, length-replicate, get_or-replicate}
use Rattle.std.proofs.lemmas.List.FromFn.{length-range_with_len}
use Rattle.term_core.proofs.Numbers.{range-at}
use Rattle.class_table.specs.declared.rings.Merge.{Merge}
use Rattle.class_table.specs.Classes.{renumbered}
use Rattle.class_table.specs.Rings.{walk, set_each, swapped, occurrences, IsRing, RingState, alone, after, after_all, Joins, AreJoins, IsClass, RingsFit}
use Rattle.class_table.proofs.Lists.{set_back, occurrences-range, occurrences_joined, occurrences_other}
use Rattle.class_table.proofs.Circles.{merged, other_ring, next_a, next_b, next_other, walk-members, set_members, unset_members}

module _ (s : RingState) (m : Merge) (whole : RingsFit s) (j : Joins s.numbers m) where
  long : length (renumbered m.from m.into s.numbers) ≡ length s.numbers
  long = length-map s.numbers (λ c. if c == m.from then m.into else c)

  from_in : m.from < length s.next
  from_in = omega (arith, whole.next_long, j.from_in)

  into_in : m.into < length s.next
  into_in = omega (arith, whole.next_long, j.into_in)

  number_after : (t : ℕ) → t < length s.numbers → slice_index (after s m).numbers t ≡ (if slice_index s.numbers t == m.from then m.into else slice_index s.numbers t)
  number_after t h = get_or-map (λ c. if c == m.from then m.into else c) s.numbers t 0 0 h

  class_of : (c : ℕ) → c < length s.numbers → slice_index s.numbers c ≡ c → IsClass s c
  class_of c h e = subst (IsClass s) e (whole.classes c h)

  pub from_class : IsClass s m.from
  from_class = class_of m.from j.from_in j.from_is

  pub into_class : IsClass s m.into
  into_class = class_of m.into j.into_in j.into_is

  pub size_joined : slice_index (after s m).sizes m.into ≡ slice_index s.sizes m.from + slice_index s.sizes m.into
  size_joined = get_or-set_same s.sizes m.into (slice_index s.sizes m.from + slice_index s.sizes m.into) 0 (omega (arith, whole.sizes_long, j.into_in))

  size_other : (c : ℕ) → c ≢ m.into → slice_index (after s m).sizes c ≡ slice_index s.sizes c
  size_other c apart = get_or-set_other s.sizes m.into c (slice_index s.sizes m.from + slice_index s.sizes m.into) 0 apart

  joined_class : IsClass (after s m) m.into
  joined_class = record {
    low = omega (arith, long, j.into_in);
    live = number_after m.into j.into_in ∙ grind (arith, nat_tests, j.into_is, j.apart);
    ring = subst (λ k. IsRing (after s m).next (after s m).numbers k m.into) (sym size_joined) (merged s.next s.numbers m whole.next_long j _ _ from_class.ring into_class.ring);
    size = size_joined ∙ omega (arith, from_class.size, into_class.size) ∙ sym (occurrences_joined m.from m.into s.numbers j.apart);
  }

  other_class : (c : ℕ) → IsClass s c → c ≢ m.from → c ≢ m.into → IsClass (after s m) c
  other_class c is p q = record {
    low = omega (arith, long, is.low);
    live = number_after c is.low ∙ grind (arith, nat_tests, is.live, p);
    ring = subst (λ k. IsRing (after s m).next (after s m).numbers k c) (sym (size_other c q)) (other_ring s.next s.numbers m whole.next_long j _ c p q is.ring);
    size = size_other c q ∙ is.size ∙ sym (occurrences_other m.from m.into c s.numbers p q);
  }

  class_after : (t : ℕ) → t < length s.numbers → IsClass (after s m) (slice_index (after s m).numbers t)
  class_after t h = by (cases_eq (slice_index s.numbers t) m.from) (cases_eq (slice_index s.numbers t) m.into)
    where
      by : (slice_index s.numbers t ≡ m.from) ⊎ (slice_index s.numbers t ≢ m.from) → (slice_index s.numbers t ≡ m.into) ⊎ (slice_index s.numbers t ≢ m.into) → IsClass (after s m) (slice_index (after s m).numbers t)
      by (inl e) f = subst (IsClass (after s m)) (sym (number_after t h ∙ grind (arith, nat_tests))) joined_class
      by (inr e) (inl f) = subst (IsClass (after s m)) (sym (number_after t h ∙ grind (arith, nat_tests))) joined_class
      by (inr e) (inr f) = subst (IsClass (after s m)) (sym (number_after t h ∙ grind (arith, nat_tests))) (other_class (slice_index s.numbers t) (whole.classes t h) e f)

  next_low_after : (t : ℕ) → t < length s.next → slice_index (after s m).next t < length s.next
  next_low_after t h = by (cases_eq t m.from) (cases_eq t m.into)
    where
      by : (t ≡ m.from) ⊎ (t ≢ m.from) → (t ≡ m.into) ⊎ (t ≢ m.into) → slice_index (after s m).next t < length s.next
      by (inl e) f = rw (ap (slice_index (after s m).next) e ∙ next_a s.next m.from m.into from_in into_in j.apart) (whole.next_low m.into into_in)
      by (inr e) (inl f) = rw (ap (slice_index (after s m).next) f ∙ next_b s.next m.from m.into from_in into_in j.apart) (whole.next_low m.from from_in)
      by (inr e) (inr f) = rw (next_other s.next m.from m.into from_in into_in j.apart t e f) (whole.next_low t h)

  next_after_long : length (after s m).next ≡ length s.next
  next_after_long = length-set _ _ _ ∙ length-set _ _ _

  pub whole_after : RingsFit (after s m)
  whole_after = record {
    next_long = next_after_long ∙ whole.next_long ∙ sym long;
    sizes_long = length-set _ _ _ ∙ whole.sizes_long ∙ sym long;
    next_low = λ t h. omega (arith, next_low_after t (omega (arith, next_after_long, h)), next_after_long);
    classes = λ t h. class_after t (omega (arith, long, h));
  }

  -- the same exchange takes the rings back
  pub next_back : swapped (after s m).next m.from m.into ≡ s.next
  next_back =
      same_number_lists (swapped (after s m).next m.from m.into) s.next (length-set _ _ _ ∙ length-set _ _ _ ∙ next_after_long)
      (λ k h. at k (cases_eq k m.from) (cases_eq k m.into))
    where
      from_in2 : m.from < length (after s m).next
      from_in2 = omega (arith, next_after_long, from_in)

      into_in2 : m.into < length (after s m).next
      into_in2 = omega (arith, next_after_long, into_in)

      at : (k : ℕ) → (k ≡ m.from) ⊎ (k ≢ m.from) → (k ≡ m.into) ⊎ (k ≢ m.into) → slice_index (swapped (after s m).next m.from m.into) k ≡ slice_index s.next k
      at k (inl e) f = subst (λ k. slice_index (swapped (after s m).next m.from m.into) k ≡ slice_index s.next k) (sym e)
          (next_a (after s m).next m.from m.into from_in2 into_in2 j.apart ∙ next_b s.next m.from m.into from_in into_in j.apart)
      at k (inr e) (inl f) = subst (λ k. slice_index (swapped (after s m).next m.from m.into) k ≡ slice_index s.next k) (sym f)
          (next_b (after s m).next m.from m.into from_in2 into_in2 j.apart ∙ next_a s.next m.from m.into from_in into_in j.apart)
      at k (inr e) (inr f) = next_other (after s m).next m.from m.into from_in2 into_in2 j.apart k e f ∙ next_other s.next m.from m.into from_in into_in j.apart k e f

  -- the size of the class that was renumbered is still there
  pub size_kept : slice_index (after s m).sizes m.from ≡ slice_index s.sizes m.from
  size_kept = size_other m.from j.apart

  -- the size of the other, less that
  pub sizes_back : slice_set (after s m).sizes m.into (slice_index (after s m).sizes m.into - slice_index s.sizes m.from) ≡ s.sizes
  sizes_back =
      let less : slice_index (after s m).sizes m.into - slice_index s.sizes m.from ≡ slice_index s.sizes m.into = omega (arith, size_joined) in
      ap (slice_set (after s m).sizes m.into) less ∙ set_back s.sizes m.into (slice_index s.sizes m.from + slice_index s.sizes m.into)

  members_of_from : (t : ℕ) → occurrences t (walk s.next (slice_index s.sizes m.from) m.from) ≡ (if nat_lt t (length s.numbers) && (slice_index s.numbers t == m.from) then 1 else 0)
  members_of_from = walk-members s.next s.numbers (slice_index s.sizes m.from) m.from m.from from_class.ring j.from_in j.from_is

  -- to go round the ring gives its terms the new number
  pub numbers_forth : set_each s.numbers m.into (walk s.next (slice_index s.sizes m.from) m.from) ≡ (after s m).numbers
  numbers_forth = set_members s.numbers (walk s.next (slice_index s.sizes m.from) m.from) m.from m.into members_of_from

  -- and the old one back
  pub numbers_back : set_each (after s m).numbers m.from (walk s.next (slice_index s.sizes m.from) m.from) ≡ s.numbers
  numbers_back = unset_members s.numbers (walk s.next (slice_index s.sizes m.from) m.from) m.from m.into members_of_from

-- a term alone is a class
module _ (n t : ℕ) (h : t < n) where
  one : slice_index (replicate n 1) t ≡ 1
  one = get_or-replicate n t 1 0 h

pub whole_alone : (n : ℕ) → RingsFit (alone n)
whole_alone n = record {
  next_long = refl;
  sizes_long = length-replicate n 1 ∙ sym range_long;
  next_low = λ t h. omega (arith, range-at n t (below t h), h);
  classes = λ t h. subst (IsClass (alone n)) (sym (range-at n t (below t h))) (class_alone t (below t h));
}
  where
    range_long : length (range_with_len 0 n) ≡ n
    range_long = length-range_with_len 0 n

    below : (t : ℕ) → t < length (range_with_len 0 n) → t < n
    below t h = omega (arith, range_long, h)

    only : (t u : ℕ) → t < n → (u < n) ⊎ (n ≤ u) → (if u == t then 1 else 0) + 0 ≡ (if nat_lt u (length (range_with_len 0 n)) && (slice_index (range_with_len 0 n) u == t) then 1 else 0)
    only t u h (inl lt) = let is = range-at n u lt in let many = range_long in grind (arith, nat_tests)
    only t u h (inr ge) = let many = range_long in grind (arith, nat_tests)

    class_alone : (t : ℕ) → t < n → IsClass (alone n) t
    class_alone t h = record {
      low = omega (arith, range_long, h);
      live = range-at n t h;
      ring = record {
        ring = t ∷ [];
        start = t;
        leads = (refl, range-at n t h);
        long = sym (one n t h);
        members = λ u. only t u h (cases_lt u n);
      };
      size = one n t h ∙ sym (occurrences-range t 0 n ∙ grind (arith, nat_tests, h));
    }

whole_all : (s : RingState) (ms : List Merge) → RingsFit s → AreJoins s ms → RingsFit (after_all s ms)
whole_all s [] whole j = whole
whole_all s (m ∷ ms) whole j = whole_all (after s m) ms (whole_after s m whole j.0) j.1

pub whole : (n : ℕ) (ms : List Merge) → AreJoins (alone n) ms → RingsFit (after_all (alone n) ms)
whole n ms j = whole_all (alone n) ms (whole_alone n) j
