-- More terms or fewer do not change what merges make of the others, and there are fewer merges than terms.
use Rattle.std.proofs.Common.{arith, ◌≡◌, ◌≢◌, ◌∙◌, ℕ, zero, suc, ◌+◌, ◌<◌, ◌≤◌, ◌==◌, List, [], ◌∷◌, ◌++◌, length, map, take, replicate, slice_index, slice_set, if◌then◌else◌, refl, sym, ap, ap₂, subst, length-take, get_or-take}
use Rattle.std.specs.List.{range_with_len}
use Rattle.std.proofs.lemmas.Grind.{fold-append}
use Rattle.std.proofs.lemmas.Bool.Decides.{nat_tests}
use Rattle.std.proofs.lemmas.List.{length-map, length-set, length-append, map-append, take-map, set-append_left, get_or_append_left, take-replicate, replicate-append-replicate}
use Rattle.std.proofs.lemmas.List.FromFn.{length-range_with_len}
use Rattle.std.proofs.Math.Seq.{take-set-lt}
use Rattle.class_table.specs.declared.rings.Merge.{Merge}
use Rattle.class_table.specs.Classes.{renumbered}
use Rattle.class_table.specs.Rings.{swapped, RingState, alone, after, after_all, Joins, AreJoins, RingsFit}
use Rattle.class_table.proofs.Lists.{range_follow, take_range, range_kept}
use Rattle.class_table.proofs.States.{whole_after, whole_alone}

-- so many terms more, each alone
abbrev pub grown : ℕ → RingState → RingState
grown more s = record {
  numbers = s.numbers ++ range_with_len (length s.numbers) more;
  next = s.next ++ range_with_len (length s.numbers) more;
  sizes = s.sizes ++ replicate more 1;
}

-- the first terms alone
abbrev pub shortened : ℕ → RingState → RingState
shortened n s = record { numbers = take n s.numbers; next = take n s.next; sizes = take n s.sizes }

pub same_state : {s t : RingState} → s.numbers ≡ t.numbers → s.next ≡ t.next → s.sizes ≡ t.sizes → s ≡ t
same_state p q r = λ i. record { numbers = p i; next = q i; sizes = r i }

pub length-renumbered : (from into : ℕ) (ns : List ℕ) → length (renumbered from into ns) ≡ length ns
length-renumbered from into ns = length-map ns (λ c. if c == from then into else c)

module _ (more : ℕ) (s : RingState) (m : Merge) (w : RingsFit s) (j : Joins s.numbers m) where
  joins_grown : Joins (grown more s).numbers m
  joins_grown =
      let ys = range_with_len (length s.numbers) more in
      let long = length-append s.numbers ys in
      record {
        from_in = omega (arith, j.from_in, long);
        into_in = omega (arith, j.into_in, long);
        from_is = get_or_append_left s.numbers ys 0 m.from j.from_in ∙ j.from_is;
        into_is = get_or_append_left s.numbers ys 0 m.into j.into_in ∙ j.into_is;
        apart = j.apart;
      }

  after_grown : after (grown more s) m ≡ grown more (after s m)
  after_grown =
      let ys = range_with_len (length s.numbers) more in
      let f : ℕ → ℕ = λ c. if c == m.from then m.into else c in
      let fx : m.from < length s.next = omega (arith, j.from_in, w.next_long) in
      let ix : m.into < length s.next = omega (arith, j.into_in, w.next_long) in
      let fs : m.from < length s.sizes = omega (arith, j.from_in, w.sizes_long) in
      let is : m.into < length s.sizes = omega (arith, j.into_in, w.sizes_long) in
      let fx2 : m.into < length (slice_set s.next m.from (slice_index s.next m.into)) = omega (arith, ix, length-set s.next m.from (slice_index s.next m.into)) in
      let long = length-renumbered m.from m.into s.numbers in
      same_state
      (map-append f s.numbers ys ∙ ap (λ l. map f s.numbers ++ l) (range_kept m.from m.into (length s.numbers) more j.from_in) ∙ ap (λ n. map f s.numbers ++ range_with_len n more) (sym long))
      (ap₂ (λ a b. slice_set (slice_set (s.next ++ ys) m.from a) m.into b) (get_or_append_left s.next ys 0 m.into ix) (get_or_append_left s.next ys 0 m.from fx)
      ∙ ap (λ l. slice_set l m.into (slice_index s.next m.from)) (set-append_left s.next ys m.from (slice_index s.next m.into) fx)
      ∙ set-append_left (slice_set s.next m.from (slice_index s.next m.into)) ys m.into (slice_index s.next m.from) fx2
      ∙ ap (λ n. swapped s.next m.from m.into ++ range_with_len n more) (sym long))
      (ap₂ (λ a b. slice_set (s.sizes ++ replicate more 1) m.into (a + b)) (get_or_append_left s.sizes (replicate more 1) 0 m.from fs) (get_or_append_left s.sizes (replicate more 1) 0 m.into is)
      ∙ set-append_left s.sizes (replicate more 1) m.into (slice_index s.sizes m.from + slice_index s.sizes m.into) is)

all_grown : (more : ℕ) (s : RingState) (ms : List Merge) → RingsFit s → AreJoins s ms
    → AreJoins (grown more s) ms × (after_all (grown more s) ms ≡ grown more (after_all s ms))
all_grown more s [] w j = (j, refl)
all_grown more s (m ∷ ms) w j =
    let e = after_grown more s m w j.0 in
    let r = all_grown more (after s m) ms (whole_after s m w j.0) j.1 in (
      (joins_grown more s m w j.0, subst (λ t. AreJoins t ms) (sym e) r.0),
      ap (λ t. after_all t ms) e ∙ r.1,
    )

alone_grown : (n more : ℕ) → alone (n + more) ≡ grown more (alone n)
alone_grown n more =
    let long = length-range_with_len 0 n in
    let zero_on : 0 + n ≡ n = omega arith in
    let both : range_with_len 0 (n + more) ≡ range_with_len 0 n ++ range_with_len (length (range_with_len 0 n)) more =
    range_follow 0 n more (length (range_with_len 0 n)) (zero_on ∙ sym long) in
    same_state both both (sym (replicate-append-replicate n more 1))

-- more terms are alone, next to what merges make
pub terms_more : (n more : ℕ) (ms : List Merge) → AreJoins (alone n) ms
    → AreJoins (alone (n + more)) ms × (after_all (alone (n + more)) ms ≡ grown more (after_all (alone n) ms))
terms_more n more ms j =
    let e = alone_grown n more in
    let r = all_grown more (alone n) ms (whole_alone n) j in
    (subst (λ s. AreJoins s ms) (sym e) r.0, ap (λ s. after_all s ms) e ∙ r.1)

module _ (n : ℕ) (s : RingState) (m : Merge) (j : Joins (take n s.numbers) m) where
  from_in : m.from < n
  from_in = omega (arith, j.from_in, length-take n s.numbers)

  into_in : m.into < n
  into_in = omega (arith, j.into_in, length-take n s.numbers)

  after_shortened : shortened n (after s m) ≡ after (shortened n s) m
  after_shortened =
      let f : ℕ → ℕ = λ c. if c == m.from then m.into else c in
      let from_next : slice_index (take n s.next) m.from ≡ slice_index s.next m.from = get_or-take n s.next m.from 0 from_in in
      let into_next : slice_index (take n s.next) m.into ≡ slice_index s.next m.into = get_or-take n s.next m.into 0 into_in in
      let from_size : slice_index (take n s.sizes) m.from ≡ slice_index s.sizes m.from = get_or-take n s.sizes m.from 0 from_in in
      let into_size : slice_index (take n s.sizes) m.into ≡ slice_index s.sizes m.into = get_or-take n s.sizes m.into 0 into_in in
      same_state
      (take-map f n s.numbers)
      (take-set-lt n (slice_set s.next m.from (slice_index s.next m.into)) m.into (slice_index s.next m.from) into_in
      ∙ ap (λ l. slice_set l m.into (slice_index s.next m.from)) (take-set-lt n s.next m.from (slice_index s.next m.into) from_in)
      ∙ ap₂ (λ a b. slice_set (slice_set (take n s.next) m.from a) m.into b) (sym into_next) (sym from_next))
      (take-set-lt n s.sizes m.into (slice_index s.sizes m.from + slice_index s.sizes m.into) into_in
      ∙ ap₂ (λ a b. slice_set (take n s.sizes) m.into (a + b)) (sym from_size) (sym into_size))

all_shortened : (n : ℕ) (s : RingState) (ms : List Merge) → AreJoins (shortened n s) ms → shortened n (after_all s ms) ≡ after_all (shortened n s) ms
all_shortened n s [] j = refl
all_shortened n s (m ∷ ms) j =
    let e = after_shortened n s m j.0 in
    all_shortened n (after s m) ms (subst (λ t. AreJoins t ms) (sym e) j.1) ∙ ap (λ t. after_all t ms) e

-- the first terms, of which all merges are, are what merges make of them
pub terms_fewer : (k n : ℕ) (ms : List Merge) → k ≤ n → AreJoins (alone k) ms → shortened k (after_all (alone n) ms) ≡ after_all (alone k) ms
terms_fewer k n ms h j =
    let e : shortened k (alone n) ≡ alone k = same_state (take_range 0 k n h) (take_range 0 k n h) (take-replicate k n 1 h) in
    all_shortened k (alone n) ms (subst (λ s. AreJoins s ms) (sym e) j) ∙ ap (λ s. after_all s ms) e

pub length-numbers : (s : RingState) (ms : List Merge) → length (after_all s ms).numbers ≡ length s.numbers
length-numbers s [] = refl
length-numbers s (m ∷ ms) = length-numbers (after s m) ms ∙ length-renumbered m.from m.into s.numbers

-- one merge more
pub joins_push : (s : RingState) (ms : List Merge) (m : Merge) → AreJoins s ms → Joins (after_all s ms).numbers m → AreJoins s (ms ++ m ∷ [])
joins_push s [] m j k = (k, tt)
joins_push s (x ∷ ms) m j k = (j.0, joins_push (after s x) ms m j.1 k)

-- the newest merge, after the older ones
pub joins_last : (s : RingState) (ms : List Merge) (m : Merge) → AreJoins s (ms ++ m ∷ []) → AreJoins s ms × Joins (after_all s ms).numbers m
joins_last s [] m j = (tt, j.0)
joins_last s (x ∷ ms) m j = let r = joins_last (after s x) ms m j.1 in ((j.0, r.0), r.1)

pub after_push : (s : RingState) (ms : List Merge) (m : Merge) → after_all s (ms ++ m ∷ []) ≡ after (after_all s ms) m
after_push s ms m = fold-append after s ms (m ∷ [])

-- how many places from one on have their own number
lives : ℕ → List ℕ → ℕ
lives i [] = 0
lives i (n ∷ ns) = (if n == i then 1 else 0) + lives (suc i) ns

lives_few : (i : ℕ) (ns : List ℕ) → lives i ns ≤ length ns
unfolding lives
lives_few i [] = omega arith
lives_few i (n ∷ ns) = let rest = lives_few (suc i) ns in grind (arith, nat_tests)

module _ (from into : ℕ) (apart : from ≢ into) where
  -- renumbering makes no place live, where the other class has its own number
  lives_no_more : (i : ℕ) (ns : List ℕ) → ((k : ℕ) → k < length ns → slice_index ns k ≡ from → i + k ≢ into) → lives i (renumbered from into ns) ≤ lives i ns
  unfolding lives
  lives_no_more i [] other = omega arith
  lives_no_more i (n ∷ ns) other =
      let rest = lives_no_more (suc i) ns (λ k lt e h. other (suc k) (omega (arith, lt)) e (omega (arith, h))) in
      let here : n ≡ from → i ≢ into = λ e h. other 0 (omega arith) e (omega (arith, h)) in
      grind (arith, nat_tests, here)

  -- and one place less, that of the class
  lives_fewer : (i k : ℕ) (ns : List ℕ) → ((k : ℕ) → k < length ns → slice_index ns k ≡ from → i + k ≢ into) → k < length ns → slice_index ns k ≡ from → i + k ≡ from
      → lives i (renumbered from into ns) + 1 ≤ lives i ns
  unfolding lives
  lives_fewer i k [] other lt e h = absurd (omega (arith, lt))
  lives_fewer i zero (n ∷ ns) other lt e h =
      let rest = lives_no_more (suc i) ns (λ k lt e h. other (suc k) (omega (arith, lt)) e (omega (arith, h))) in
      let is : i ≡ from = omega (arith, h) in
      grind (arith, nat_tests, apart)
  lives_fewer i (suc k) (n ∷ ns) other lt e h =
      let rest = lives_fewer (suc i) k ns (λ k lt e h. other (suc k) (omega (arith, lt)) e (omega (arith, h))) (omega (arith, lt)) e (omega (arith, h)) in
      let here : n ≡ from → i ≢ into = λ e h. other 0 (omega arith) e (omega (arith, h)) in
      grind (arith, nat_tests, here)

joins_few : (s : RingState) (ms : List Merge) → AreJoins s ms → length ms ≤ lives 0 s.numbers
joins_few s [] j = omega arith
joins_few s (m ∷ ms) j =
    let p = j.0 in
    let other : (k : ℕ) → k < length s.numbers → slice_index s.numbers k ≡ m.from → 0 + k ≢ m.into = λ k lt e h. p.apart (sym e ∙ ap (slice_index s.numbers) (let is : k ≡ m.into = omega (arith, h) in is) ∙ p.into_is) in
    omega (arith, joins_few (after s m) ms j.1, lives_fewer m.from m.into p.apart 0 m.from s.numbers other p.from_in p.from_is (omega arith))

-- there are no more merges than terms
pub merges_few : (n : ℕ) (ms : List Merge) → AreJoins (alone n) ms → length ms ≤ n
merges_few n ms j = omega (arith, joins_few (alone n) ms j, lives_few 0 (range_with_len 0 n), length-range_with_len 0 n)
