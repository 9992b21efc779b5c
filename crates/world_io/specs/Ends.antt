-- How much of a text was read.
use Rattle.std.specs.Prelude.{◌≡◌, ℕ, ◌+◌, ◌^◌, ◌<◌, ◌≤◌, List, length, take, Option}
use Rattle.std.specs.Io.KnownBytes.{Consumes}
use Rattle.world_io.specs.declared.read.ReadEnd.{ReadEnd}
use Rattle.world_io.specs.declared.read.ReadEnd.TheVariants.{Whole, Cut}

-- all of the text, or where it has more bytes than the limit, its prefix of that length
abbrev pub IsReadTo : ℕ → ReadEnd → List ℕ → Type 0
IsReadTo limit (Whole bytes) text = (length text ≤ limit) × (bytes ≡ text)
IsReadTo limit (Cut bytes) text = (limit < length text) × (bytes ≡ take limit text)

-- the first `n` bytes that were taken, and fewer than 2^16 more were
abbrev pub HasTakenPrefix : ℕ → List ℕ → Option (List ℕ) → Option (List ℕ) → Type 0
HasTakenPrefix n bytes old new = (taken : List ℕ) × Consumes old new taken × (bytes ≡ take n taken)
    × (length taken < n + 2 ^ 16)

-- the bytes that were taken: those that were read, or where there were more than the limit, 1 to 2^16 others
abbrev pub HasTaken : ℕ → ReadEnd → Option (List ℕ) → Option (List ℕ) → Type 0
HasTaken limit (Whole bytes) old new = Consumes old new bytes
HasTaken limit (Cut bytes) old new = (taken : List ℕ) × Consumes old new taken × (bytes ≡ take limit taken)
    × (limit < length taken) × (length taken ≤ limit + 2 ^ 16)
