-- Names that hide each other, by the numbers of those that were met.
use Rattle.std.specs.Prelude.{◌≡◌, ℕ, zero, suc, ◌<◌, ◌⊎◌, Bool, true, false, List, [], ◌∷◌, ◌++◌, length, take, map}
use Rattle.std.specs.Prelude.{All, get_or, slice_index_or, ◌==◌}
use Rattle.spec_text.specs.Bytes.{Name}
use Rattle.term_reader.specs.declared.name_stack.NameEntry.{NameEntry}

-- what no number of places means
abbrev pub no_place : NameEntry
no_place = record { number = 0; hidden = 0 }

-- the names that are at places, oldest first
abbrev pub names_at : List Name → List NameEntry → List Name
names_at met places = map (λ (p : NameEntry). slice_index_or met p.number []) places

-- the numbers of the names that are at places
abbrev pub numbers_in : List NameEntry → List ℕ
numbers_in places = map (λ (p : NameEntry). p.number) places

-- one more than a place after the first, or 1 where there is none and the first is meant
abbrev pub place_after : ℕ → Bool → ℕ
place_after (suc k) first = suc (suc k)
place_after zero true = 1
place_after zero false = 0

-- one more than the latest place of a number; 0 where it has none
abbrev pub latest_of : ℕ → List ℕ → ℕ
latest_of n [] = 0
latest_of n (m ∷ ms) = place_after (latest_of n ms) (m == n)

-- Places of names that were met: what is known of each name is where it is last.
pub record IsStack (met : List Name) (latest : List ℕ) (places : List NameEntry) : Type 0 where
  -- as many latest places as names
  pub long : length latest ≡ length met
  -- each place is of a name that was met
  pub there : All (λ (p : NameEntry). p.number < length met) places
  -- the latest place of each name
  pub each : (k : ℕ) → k < length met → slice_index_or latest k 0 ≡ latest_of k (numbers_in places)
  -- and before each of its places
  pub hidden : (k : ℕ) → k < length places → (get_or places k no_place).hidden
      ≡ latest_of (get_or places k no_place).number (take k (numbers_in places))

-- The latest place of a name.
pub record IsLatest (names : List Name) (n : Name) (k : ℕ) : Type 0 where
  -- it is one of the places
  pub inside : k < length names
  -- it is the name's
  pub same : slice_index_or names k [] ≡ n
  -- no later one is
  pub later : (j : ℕ) → k < j → j < length names → slice_index_or names j [] ≡ n → ⊥

-- the names that were met stay, or one comes, which has no place
abbrev pub MeetsName : List Name → List ℕ → List Name → List ℕ → Type 0
MeetsName met latest more later =
    ((more ≡ met) × (later ≡ latest)) ⊎ ((n : Name) × (more ≡ met ++ n ∷ []) × (later ≡ latest ++ 0 ∷ []))

-- names with what they stand for, newest first
abbrev pub newest : {A : Type 0} → List Name → List A → List (Name × A)
newest (n ∷ ns) (a ∷ xs) = newest ns xs ++ (n, a) ∷ []
newest ns xs = []
