-- What an exchange makes of rows, and of the places and columns of variables.
use Rattle.std.specs.Prelude.{◌≡◌, ◌==◌, ◌||◌, ℕ, Bool, true, false, List, [], ◌∷◌, cond, map, set, Contains}
use Rattle.spec_numbers.specs.Bounds.{Overflow, multiplied, divided}
use Rattle.spec_tableaux.specs.Rows as definitions
use Rattle.spec_tableaux.specs.Rows.{Entry, Row, coefficient_of, exchanged_row, without}
use Rattle.spec_tableaux.specs.SolvedForms.{IsTidy, AllVariables, AreTidy, AllRowVariables}
use Rattle.spec_tableaux.specs.CheckOverflows.{Overflows, IsOther, pivot_in}
use Rattle.spec_tableaux.specs.Numbers.{Number, numbers}
use Rattle.tableau.specs.declared.pivots.Pivot.{Pivot}
use Rattle.tableau.specs.declared.pivots.RowChange.{RowChange}
use Rattle.tableau.specs.Numbers.{number_of}
use Rattle.tableau.specs.Entries.{entries_of, row_meant}
use Rattle.tableau.specs.Sums.{OverflowsCombined}
use Rattle.tableau.specs.Views.{row_at}

-- the meaning of a pivot
abbrev pub pivot_meant : Pivot → definitions.Pivot Number
pivot_meant p = record {
  leaving = p.leaving;
  entering = p.entering;
  factor = number_of p.factor;
  others = entries_of p.others.items;
}

-- A row is solved for x, in which an operation comes to the overflow o.
pub data OverflowsPivot (x : ℕ) (es : List (Entry Number)) (o : Overflow) : Type 0 where
  -- one over the coefficient of x
  in_factor : Overflows divided numbers.one (coefficient_of numbers x es) o → OverflowsPivot x es o
  -- another coefficient over that of x
  in_quotient : (e : Entry Number) → Contains (without x es) e
      → Overflows divided e.coefficient (coefficient_of numbers x es) o → OverflowsPivot x es o

-- A coefficient over d comes to the overflow o.
pub record OverflowsQuotients (es : List (Entry Number)) (d : Number) (o : Overflow) : Type 0 where
  pub entry : Entry Number
  pub there : Contains es entry
  pub wide : Overflows divided entry.coefficient d o

-- The entering variable is replaced in a row with its coefficient c, in which an operation comes to the overflow o.
pub data OverflowsRow (p : definitions.Pivot Number) (c : Number) (es : List (Entry Number))
    (o : Overflow) : Type 0 where
  -- the coefficient of the leaving variable
  in_leaving : Overflows multiplied c p.factor o → OverflowsRow p c es o
  -- those of the others
  in_others : OverflowsCombined true (without p.entering es) c p.others o → OverflowsRow p c es o

-- The entering variable is replaced in a row other than that of the leaving one, and that comes to the overflow o.
pub record OverflowsOther (p : definitions.Pivot Number) (rs : List (Row Number)) (o : Overflow) : Type 0 where
  pub row : Row Number
  pub other : IsOther rs p.leaving row
  pub wide : OverflowsRow p (coefficient_of numbers p.entering row.entries) row.entries o

-- A pivot of a row in solved form.
pub record IsTidyPivot (p : definitions.Pivot Number) : Type 0 where
  pub tidy : IsTidy numbers 0 p.others
  -- the leaving variable is none of the others
  pub new : AllVariables (λ y. (y == p.leaving) ≡ false) p.others

-- Rows in which the entering variable of a pivot can be replaced.
pub record AreReady (p : definitions.Pivot Number) (rs : List (Row Number)) : Type 0 where
  pub pivot : IsTidyPivot p
  pub tidy : AreTidy numbers rs
  -- the leaving variable is in no row's entries
  pub new : AllRowVariables (λ y. (y == p.leaving) ≡ false) rs

-- A row with the number under which it is kept.
pub record NewRow : Type 0 where
  pub number : ℕ
  pub row : Row Number

-- the meaning of a change
abbrev pub change_meant : RowChange → NewRow
change_meant c = record { number = c.number; row = row_meant c.row }

-- the meaning of changes
abbrev pub changes_meant : List RowChange → List NewRow
changes_meant cs = map change_meant cs

-- each change has a number of which p holds
abbrev pub AllNumbers : (ℕ → Type 0) → List NewRow → Type 0
AllNumbers p [] = Unit {0}
AllNumbers p (c ∷ cs) = p c.number × AllNumbers p cs

-- the exchange leaves a row as it is, or it is that of the leaving variable
abbrev pub stays : definitions.Pivot Number → Row Number → Bool
stays p r = (r.basic == p.leaving) || numbers.is_zero (coefficient_of numbers p.entering r.entries)

-- the new rows of those that the exchange changes, but for that of the leaving variable
abbrev pub changes_in : definitions.Pivot Number → List (Row Number) → List ℕ → List NewRow
changes_in p rs [] = []
changes_in p rs (k ∷ ks) =
    cond (stays p (row_at rs k)) (changes_in p rs ks)
    (record { number = k; row = exchanged_row numbers p (row_at rs k) } ∷ changes_in p rs ks)

-- the rows with each of the new ones in its place
abbrev pub with_changes : List (Row Number) → List NewRow → List (Row Number)
with_changes rs [] = rs
with_changes rs (c ∷ cs) = set (with_changes rs cs) c.number c.row

-- the new rows of an exchange of b, whose row has a number, and x, whose column is ks
abbrev pub exchange_changes : List (Row Number) → List ℕ → ℕ → ℕ → ℕ → List NewRow
exchange_changes rs ks number b x =
    record { number = number; row = definitions.pivot_row numbers (pivot_in rs b x) }
    ∷ changes_in (pivot_in rs b x) rs ks
