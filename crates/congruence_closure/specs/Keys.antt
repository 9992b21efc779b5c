-- Keys: heads with the class numbers of arguments.
use Rattle.std.specs.Prelude.{◌≡◌, ℕ, ◌<◌, List, [], ◌∷◌, ◌++◌, Option, Some, None, length, map, take, get_or}
use Rattle.term_core.specs.Tables.{Shape, no_shape}
use Rattle.class_table.specs.Classes.{class_at}

-- The keys, and for each the place of the listed term that has it, oldest first.
pub record Keys : Type 0 where
  -- the keys
  pub shapes : List Shape
  -- the places
  pub holders : List ℕ

-- the key of a term: its head, and for each argument the number of its class
abbrev pub key_of : List ℕ → Shape → Shape
key_of numbers s = record { head = s.head; arguments = map (λ a. record { 0 = class_at numbers a }) s.arguments }

-- the key of a place
abbrev pub key_at : Keys → ℕ → Shape
key_at keys k = get_or keys.shapes k no_shape

-- the holder of a key
abbrev pub holder_at : Keys → ℕ → ℕ
holder_at keys k = get_or keys.holders k 0

-- so many of the oldest keys
abbrev pub oldest : ℕ → Keys → Keys
oldest n keys = record { shapes = take n keys.shapes; holders = take n keys.holders }

-- one key more
abbrev pub with_key : Keys → Shape → ℕ → Keys
with_key keys s holder = record { shapes = keys.shapes ++ s ∷ []; holders = keys.holders ++ holder ∷ [] }

-- each key has one holder, and none is there twice
pub record AreKeys (keys : Keys) : Type 0 where
  -- a holder for each key
  pub count : length keys.holders ≡ length keys.shapes
  -- no key is there twice
  pub once : (j k : ℕ) → j < length keys.shapes → k < length keys.shapes → key_at keys j ≡ key_at keys k → j ≡ k

-- no place has the key
abbrev pub IsAbsent : Keys → Shape → Type 0
IsAbsent keys s = (k : ℕ) → k < length keys.shapes → key_at keys k ≡ s → ⊥

-- the key is there, and this is its holder
abbrev pub IsHeld : Keys → Shape → ℕ → Type 0
IsHeld keys s holder = (k : ℕ) × (k < length keys.shapes) × (key_at keys k ≡ s) × (holder_at keys k ≡ holder)

-- a key was looked up: it was absent, and this holder has it now; or it is there with its holder
abbrev pub IsLookedUp : Keys → Shape → ℕ → Option ℕ → Keys → Type 0
IsLookedUp old s place None new = IsAbsent old s × (new ≡ with_key old s place)
IsLookedUp old s place (Some holder) new = IsHeld old s holder × (new ≡ old)
