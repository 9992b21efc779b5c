-- Sums of multiples of variables that others stand for, and the keys by which they are found.
use Rattle.std.specs.Prelude.{◌≡◌, ℕ, Bool, true, false, List, [], ◌∷◌, map, Contains, IsPermutation, Vec}
use Rattle.std.specs.Ordering.{nat_cmp}
use Rattle.std.specs.List.Sorted.{IsNonDecreasingBy, IsStableByKey}
use Rattle.std.specs.declared.alloc.Global.{Global}
use Rattle.spec_tableaux.specs.Rows.{Entry, negated}
use Rattle.spec_tableaux.specs.Numbers.{Number, numbers}
use Rattle.ratio128.specs.declared.ratio.Ratio.{Ratio}
use Rattle.tableau.specs.declared.entries.Entry.{Entry as CodeEntry}
use Rattle.tableau.specs.Numbers.{number_of}
use Rattle.tableau.specs.Entries.{entries_of}
use Rattle.simplex_atoms.specs.declared.keys.Key.{Key}
use Rattle.simplex_atoms.specs.declared.sums.Multiple.{Multiple}

-- one, or minus one
abbrev pub sign_by : Bool → Number
sign_by false = numbers.one
sign_by true = numbers.opposite numbers.one

-- a number, or the opposite one
abbrev pub with_sign : Bool → Number → Number
with_sign false k = k
with_sign true k = numbers.opposite k

-- entries, or those of the opposite sum
abbrev pub signed_entries : Bool → List (Entry Number) → List (Entry Number)
signed_entries false es = es
signed_entries true es = negated numbers es

-- the first coefficient is below 0
abbrev pub begins_negative : List (Entry Number) → Bool
begins_negative [] = false
begins_negative (e ∷ es) = numbers.is_negative e.coefficient

-- the entry that a pair of a variable and a coefficient means
abbrev pub pair_meant : ℕ × Ratio → Entry Number
pair_meant p = record { variable = p.0; coefficient = number_of p.1 }

-- the same of each
abbrev pub pairs_meant : List (ℕ × Ratio) → List (Entry Number)
pairs_meant ps = map pair_meant ps

-- the entries of a key
abbrev pub key_meant : Key → List (Entry Number)
key_meant key = pairs_meant key.entries.items

-- The key of entries: they in the order of their variables, or the opposite ones where the first of these coefficients
-- is
-- below 0.
pub record IsKeyOf (es : List CodeEntry) (key : Key) : Type 0 where
  -- the entries in order
  pub sorted : List CodeEntry
  pub same : IsPermutation es sorted
  pub order : IsNonDecreasingBy (λ (e : CodeEntry). e.variable) sorted
  -- entries of one variable stay in their order
  pub stable : IsStableByKey (λ (e : CodeEntry). e.variable) nat_cmp es sorted
  -- the sign
  pub opposite : key.opposite ≡ begins_negative (entries_of sorted)
  pub is : key_meant key ≡ signed_entries key.opposite (entries_of sorted)

-- A sum that is a variable, or minus a variable.
pub record Sum : Type 0 where
  pub entries : List (Entry Number)
  pub variable : ℕ
  -- the sum is minus the variable
  pub opposite : Bool

-- the sum of entries, which is a variable or minus it
abbrev pub sum_by : List (Entry Number) → Multiple → Sum
sum_by es m = record { entries = es; variable = m.variable; opposite = m.opposite }

-- the sum that is kept by its entries
abbrev pub sum_meant : Vec (ℕ × Ratio) Global × Multiple → Sum
sum_meant kept = sum_by (pairs_meant kept.0.items) kept.1

-- the same of each
abbrev pub sums_meant : List (Vec (ℕ × Ratio) Global × Multiple) → List Sum
sums_meant kept = map sum_meant kept

-- none of the sums is of these entries
abbrev pub IsNew : List Sum → List (Entry Number) → Type 0
IsNew sums es = (m : Multiple) → Contains sums (sum_by es m) → ⊥

-- the sum of the entries is among the sums, by each key of theirs
abbrev pub IsListed : List Sum → List (Entry Number) → Type 0
IsListed sums gs = (es : List CodeEntry) (key : Key) → entries_of es ≡ gs → IsKeyOf es key
    → (m : Multiple) × Contains sums (sum_by (key_meant key) m)

-- The sums that are kept, in any order, and how many more there can be without memory.
pub record SumsView : Type 0 where
  -- the sums
  pub list : List Sum
  -- how many more
  pub room : ℕ
