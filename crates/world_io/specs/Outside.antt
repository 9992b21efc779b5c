-- What reading and writing do to the bytes that are known, and how faults are counted.
use Rattle.std.specs.Prelude.{◌≡◌, ℕ, ◌-◌, ◌^◌, ◌<◌, ◌≤◌, ◌⊎◌, List, ◌++◌, length, take, Option, Some, None, ⊤}

-- the count rose; at the greatest number of 64 bits it stays
abbrev pub Rose : ℕ → ℕ → Type 0
Rose old new = (old < new) ⊎ ((old ≡ 2 ^ 64 - 1) × (new ≡ 2 ^ 64 - 1))

-- a prefix of the known bytes was taken, and the rest is left
abbrev pub TakesPrefix : Option (List ℕ) → Option (List ℕ) → Type 0
TakesPrefix None new = ⊤
TakesPrefix (Some old) None = ⊥
TakesPrefix (Some old) (Some new) = (taken : List ℕ) × (old ≡ taken ++ new)

-- known bytes grow by a prefix of the bytes given
abbrev pub AppendsPrefix : Option (List ℕ) → Option (List ℕ) → List ℕ → Type 0
AppendsPrefix None new bytes = ⊤
AppendsPrefix (Some old) None bytes = ⊥
AppendsPrefix (Some old) (Some new) bytes = (n : ℕ) × (n ≤ length bytes) × (new ≡ old ++ take n bytes)
