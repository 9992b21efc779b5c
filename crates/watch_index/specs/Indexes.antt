-- Lists of numbers by literals, and what the calls do to them.
use Rattle.std.specs.Prelude.{◌≡◌, ◌≢◌, ◌+◌, ◌*◌, ◌<◌, ◌≤◌, ◌⊎◌, nat_lt, ℕ, suc, Bool, true, false, Option, Some, None}
use Rattle.std.specs.Prelude.{List, [], ◌∷◌, ◌++◌, length, replicate, set, get_or}
use Rattle.std.specs.List.{swap_remove, filter, filter_map}
use Rattle.term_core.specs.declared.ids.Lit.{Lit}

-- 1 for yes and 0 for no
abbrev pub one_if : Bool → ℕ
one_if true = 1
one_if false = 0

-- a literal's place among the lists: two stand for each term
abbrev pub code : Lit → ℕ
code l = 2 * l.term.0 + one_if l.positive

-- the list of a literal, which is empty past the last one
abbrev pub list_of : List (List ℕ) → Lit → List ℕ
list_of index l = get_or index (code l) []

-- Empty lists come after those that were there.
pub record HasGrown (old new : List (List ℕ)) : Type 0 where
  -- how many
  pub more : ℕ
  -- they come last
  pub is : new ≡ old ++ replicate more []

-- A number is last in the list of a place, and the others are as they were.
pub record IsAppended (old : List (List ℕ)) (place number : ℕ) (new : List (List ℕ)) : Type 0 where
  -- the list has the number as its last
  pub list : get_or new place [] ≡ get_or old place [] ++ number ∷ []
  -- the others
  pub others : (k : ℕ) → k ≢ place → get_or new k [] ≡ get_or old k []
  -- there are no fewer lists
  pub longer : length old ≤ length new

-- An entry of the list of a place is taken out, and the last one is in its stead; the other lists are as they were.
pub record IsTakenOut (old : List (List ℕ)) (place at : ℕ) (new : List (List ℕ)) : Type 0 where
  -- the list lost the entry
  pub list : get_or new place [] ≡ swap_remove (get_or old place []) at 0
  -- the others
  pub others : (k : ℕ) → k ≢ place → get_or new k [] ≡ get_or old k []

-- An entry of one literal's list went to the end of another's.
pub record IsMoved (old : List (List ℕ)) (from : Lit) (at : ℕ) (to : Lit) (new : List (List ℕ)) : Type 0 where
  -- the lists between
  pub middle : List (List ℕ)
  -- the number is in the other list first
  pub put : IsAppended old (code to) (get_or (list_of old from) at 0) middle
  -- then it is taken out of the one
  pub taken : IsTakenOut middle (code from) at new

-- An entry of a number went from one literal's list to the end of another's.
pub record IsMovedOf (old : List (List ℕ)) (from : Lit) (number : ℕ) (to : Lit) (new : List (List ℕ)) : Type 0 where
  -- its place
  pub at : ℕ
  pub there : at < length (list_of old from)
  -- the number was there
  pub is : get_or (list_of old from) at 0 ≡ number
  -- the entry was moved
  pub moved : IsMoved old from at to new

-- The list of a literal was taken, and is empty.
pub record IsListTaken (old : List (List ℕ)) (l : Lit) (list : List ℕ) (new : List (List ℕ)) : Type 0 where
  -- there is one
  pub there : code l < length old
  -- it was this
  pub list_is : list ≡ list_of old l
  -- it is empty
  pub empty : new ≡ set old (code l) []

-- the numbers numbers_below one
abbrev pub numbers_below : ℕ → List ℕ → List ℕ
numbers_below n ks = filter (λ k. nat_lt k n) ks

-- of the numbers those that stay, each by its new number
abbrev pub renumbered : List (Option ℕ) → List ℕ → List ℕ
renumbered kept ns = filter_map (λ n. get_or kept n None) ns

-- what comes of the entry at a place: it goes and nothing changes, or its new number is at another place
abbrev pub RenumbersOne : List (Option ℕ) → (at to : ℕ) → (old new : List ℕ) → ℕ → Type 0
RenumbersOne kept at to old new next = ((get_or kept (get_or old at 0) None ≡ None) × (new ≡ old) × (next ≡ to))
    ⊎ ((m : ℕ) × (get_or kept (get_or old at 0) None ≡ Some m) × (new ≡ set old to m) × (next ≡ suc to))
