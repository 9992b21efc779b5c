-- Sums of rows: a multiple of one list of entries that is added to another, or taken from it, entry by entry.
use Rattle.std.specs.Prelude.{◌≡◌, ◌<◌, ◌≤◌, ℕ, Bool, true, false, List, [], ◌∷◌, ◌++◌, cond, length, Contains, Result}
use Rattle.spec_numbers.specs.Fractions.{Fraction}
use Rattle.spec_numbers.specs.Bounds.{Overflow, added, subtracted, multiplied}
use Rattle.spec_tableaux.specs.Fields.{Field}
use Rattle.spec_tableaux.specs.Rows.{Entry, put}
use Rattle.spec_tableaux.specs.SolvedForms.{AllVariables}
use Rattle.spec_tableaux.specs.CheckOverflows.{Overflows}
use Rattle.spec_tableaux.specs.Numbers.{Number, numbers}

-- the entries es, with h of k times each of the entries gs added
abbrev pub put_each : {A : Type 0} → Field A → (A → A) → List (Entry A) → A → List (Entry A) → List (Entry A)
put_each f h es k [] = es
put_each f h es k (g ∷ gs) = put f g.variable (h (f.times k g.coefficient)) (put_each f h es k gs)

-- a number, or minus it
abbrev pub turned : Bool → Number → Number
turned minus x = cond minus (numbers.opposite x) x

-- the operation that adds a number, or takes it away
abbrev pub operation : Bool → Fraction → Fraction → Result Fraction Overflow
operation minus = cond minus subtracted added

-- An entry g times a number is added to a list, or taken from it.
pub record Step : Type 0 where
  -- it is taken from the list
  pub minus : Bool
  pub factor : Number
  pub entry : Entry Number

-- the entries es with those of gs, times a number, added or taken away
abbrev pub combined : Bool → List (Entry Number) → Number → List (Entry Number) → List (Entry Number)
combined minus es k gs = put_each numbers (turned minus) es k gs

-- the variables of the entries are above y
abbrev pub AreAbove : ℕ → List (Entry Number) → Type 0
AreAbove y es = AllVariables (λ z. y < z) es

-- what was written of the sum of old and es grew to new, with rest left of es, and the step's entry used or not
abbrev pub Merges : Step → List (Entry Number) → List (Entry Number) → List (Entry Number) → List (Entry Number)
    → Bool → Type 0
Merges s old es new rest true = (later : List (Entry Number)) → AreAbove s.entry.variable later
    → old ++ combined s.minus es s.factor (s.entry ∷ later) ≡ new ++ combined s.minus rest s.factor later
Merges s old es new rest false = (later : List (Entry Number)) → AreAbove s.entry.variable later
    → old ++ combined s.minus es s.factor (s.entry ∷ later) ≡ new ++ combined s.minus rest s.factor (s.entry ∷ later)

-- less is left
abbrev pub Shrinks : {A : Type 0} → List A → List A → Bool → Type 0
Shrinks es rest true = length rest ≤ length es
Shrinks es rest false = length rest < length es

-- rest has entries of es alone
abbrev pub IsLeft : List (Entry Number) → List (Entry Number) → Type 0
IsLeft es rest = (e : Entry Number) → Contains rest e → Contains es e

-- A sum of es and k times gs, or their difference, comes to the overflow o.
pub data OverflowsCombined (minus : Bool) (es : List (Entry Number)) (k : Number) (gs : List (Entry Number))
    (o : Overflow) : Type 0 where
  -- in a product
  in_product : (g : Entry Number) → Contains gs g → Overflows multiplied k g.coefficient o
      → OverflowsCombined minus es k gs o
  -- in a sum for one variable
  in_sum : (g : Entry Number) → Contains gs g → (e : Entry Number) → Contains es e → e.variable ≡ g.variable
      → Overflows (operation minus) e.coefficient (numbers.times k g.coefficient) o → OverflowsCombined minus es k gs o

-- An entry with the coefficient c of x, put into the entries es, comes to the overflow o.
pub record OverflowsPut (es : List (Entry Number)) (x : ℕ) (c : Number) (o : Overflow) : Type 0 where
  pub entry : Entry Number
  pub there : Contains es entry
  pub same : entry.variable ≡ x
  pub wide : Overflows added entry.coefficient c o
