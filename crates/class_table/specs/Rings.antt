-- The members of each class in a ring, the sizes of classes, and what a merge makes of them.
use Rattle.std.specs.Prelude.{◌≡◌, ◌≢◌, ◌+◌, ◌<◌, ◌≤◌, ◌==◌, ◌&&◌, nat_lt, ℕ, Bool, zero, suc, List, [], ◌∷◌, length}
use Rattle.std.specs.Prelude.{replicate, fold, slice_index, slice_set, if◌then◌else◌, vec_capacity, ⊤}
use Rattle.std.specs.List.{range_with_len}
use Rattle.class_table.specs.declared.rings.Merge.{Merge}
use Rattle.class_table.specs.declared.rings.Rings.TheInside.{Inside}
use Rattle.class_table.specs.Classes.{renumbered}

-- the terms that are met in so many steps along their successors
abbrev pub walk : List ℕ → ℕ → ℕ → List ℕ
walk next zero t = []
walk next (suc n) t = t ∷ walk next n (slice_index next t)

-- one class number for each of some terms
abbrev pub set_each : List ℕ → ℕ → List ℕ → List ℕ
set_each numbers into [] = numbers
set_each numbers into (t ∷ ts) = set_each (slice_set numbers t into) into ts

-- two terms with their successors exchanged: two rings become one, or one becomes two
abbrev pub swapped : List ℕ → ℕ → ℕ → List ℕ
swapped next a b = slice_set (slice_set next a (slice_index next b)) b (slice_index next a)

-- 1 for yes and 0 for no
abbrev pub once_if : Bool → ℕ
once_if b = if b then 1 else 0

-- how often a number is in a list
abbrev pub occurrences : ℕ → List ℕ → ℕ
occurrences n [] = 0
occurrences n (x ∷ xs) = once_if (n == x) + occurrences n xs

-- one who goes along successors from a term meets these, and comes to the end
abbrev pub RingLeads : List ℕ → ℕ → List ℕ → ℕ → Type 0
RingLeads next start [] end = start ≡ end
RingLeads next start (t ∷ ts) end = (start ≡ t) × RingLeads next (slice_index next t) ts end

-- The members of a class are in a ring of such a size.
pub record IsRing (next numbers : List ℕ) (size class : ℕ) : Type 0 where
  -- the members, from one of them on
  pub ring : List ℕ
  pub start : ℕ
  -- which they lead back to
  pub leads : RingLeads next start ring start
  -- as many as the size says
  pub long : length ring ≡ size
  -- each member is there once, and no other term
  pub members : (t : ℕ) → occurrences t ring ≡ once_if (nat_lt t (length numbers) && (slice_index numbers t == class))

-- Terms in classes.
pub record RingState : Type 0 where
  -- for each term the number of its class
  pub numbers : List ℕ
  -- for each term the next one in the ring of its class
  pub next : List ℕ
  -- for each class, by its number, its size; that of a class that was renumbered stays what it was
  pub sizes : List ℕ

-- so many terms, each alone
abbrev pub alone : ℕ → RingState
alone n = record { numbers = range_with_len 0 n; next = range_with_len 0 n; sizes = replicate n 1 }

-- one class went into another
abbrev pub after : RingState → Merge → RingState
after s m = record {
  numbers = renumbered m.from m.into s.numbers;
  next = swapped s.next m.from m.into;
  sizes = slice_set s.sizes m.into (slice_index s.sizes m.from + slice_index s.sizes m.into);
}

-- some merges, oldest first
abbrev pub after_all : RingState → List Merge → RingState
after_all s ms = fold after s ms

-- The merge joins two classes. Each has the number of one of its terms.
pub record Joins (numbers : List ℕ) (m : Merge) : Type 0 where
  -- both are terms
  pub from_in : m.from < length numbers
  pub into_in : m.into < length numbers
  -- in the classes of their own numbers
  pub from_is : slice_index numbers m.from ≡ m.from
  pub into_is : slice_index numbers m.into ≡ m.into
  -- which are two
  pub apart : m.from ≢ m.into

-- each merge joins two classes that the older ones left
abbrev pub AreJoins : RingState → List Merge → Type 0
AreJoins s [] = ⊤
AreJoins s (m ∷ ms) = Joins s.numbers m × AreJoins (after s m) ms

-- A class that terms are in.
pub record IsClass (s : RingState) (class : ℕ) : Type 0 where
  -- it has the number of a term
  pub low : class < length s.numbers
  -- which is one of its own
  pub live : slice_index s.numbers class ≡ class
  -- its members are in a ring
  pub ring : IsRing s.next s.numbers (slice_index s.sizes class) class
  -- and are counted
  pub size : slice_index s.sizes class ≡ occurrences class s.numbers

-- Each term has a class and a successor.
pub record RingsFit (s : RingState) : Type 0 where
  pub next_long : length s.next ≡ length s.numbers
  pub sizes_long : length s.sizes ≡ length s.numbers
  -- the successors are terms
  pub next_low : (t : ℕ) → t < length s.next → slice_index s.next t < length s.next
  -- the numbers are those of classes
  pub classes : (t : ℕ) → t < length s.numbers → IsClass s (slice_index s.numbers t)

-- Classes as the merges of terms that were each alone made them.
pub record RingsView : Type 0 where
  -- for each term the number of its class
  pub numbers : List ℕ
  -- the merges, oldest first
  pub merges : List Merge

-- the rows of the fields
abbrev pub state_in : Inside → RingState
state_in r = record { numbers = r.numbers.items; next = r.next.items; sizes = r.sizes.items }

-- The rows are what the merges make of terms that are each alone, and there is room for as many merges as terms.
pub record MergesFit (r : Inside) : Type 0 where
  -- what the merges make
  pub state : state_in r ≡ after_all (alone (length r.numbers.items)) r.merges.items
  -- each joins two classes
  pub joins : AreJoins (alone (length r.numbers.items)) r.merges.items
  -- no merge will need memory
  pub room : length r.numbers.items ≤ vec_capacity r.merges
