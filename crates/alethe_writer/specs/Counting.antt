-- Numbers that are given one after the other.
use Rattle.std.specs.Prelude.{◌≡◌, ℕ, ◌+◌, Bool, true, false, Option, Some, None}
use Rattle.proof_log.specs.Logs.{Logged, assumed, stepped}

-- the next number where one is wanted, and the one to come
abbrev pub IsNextNumber : ℕ → Bool → Option ℕ → ℕ → Type 0
IsNextNumber n true given next = (given ≡ Some n) × (next ≡ n + 1)
IsNextNumber n false given next = (given ≡ None) × (next ≡ n)

-- the next number of an assume or of a step, and those to come
abbrev pub IsNextOf : Logged → Bool → (h t : ℕ) → Option ℕ → (new_h new_t : ℕ) → Type 0
IsNextOf (assumed id) wanted h t given new_h new_t = IsNextNumber h wanted given new_h × (new_t ≡ t)
IsNextOf (stepped r ps qs c) wanted h t given new_h new_t = IsNextNumber t wanted given new_t × (new_h ≡ h)
