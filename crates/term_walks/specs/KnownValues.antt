-- What is known of terms on a walk.
use Rattle.std.specs.Prelude.{◌≡◌, ℕ, ◌<◌, List, [], length, get_or, Option, Some, None, Result, Ok, Err}
use Rattle.spec_text.specs.Bytes.{Name}
use Rattle.spec_numbers.specs.Bounds.{Overflow}
use Rattle.spec_sorts.specs.Values.{Value, Interpretation}
use Rattle.spec_sorts.specs.BoundedValues.{bounded_value}
use Rattle.ratio128.specs.declared.wide.Wide.{Wide}
use Rattle.ratio128.specs.Meant.{overflow}
use Rattle.term_core.specs.Tables.{TableView}
use Rattle.term_walks.specs.declared.values.Value.{Value as CodeValue}
use Rattle.term_walks.specs.declared.valuation.KnownValue.{KnownValue}
use Rattle.term_walks.specs.declared.valuation.KnownValue.TheVariants as known
use Rattle.term_walks.specs.Valuations.{value_meant, values_meant, IsNamed}
use Rattle.term_walks.specs.Orders.{number_term}

-- the value that is known, or the overflow
abbrev pub known_meant : List Name → KnownValue → Result Value Overflow
known_meant sorts (known.Value v) = Ok (value_meant sorts v)
known_meant sorts (known.Wide w) = Err (overflow w)

-- the values that were taken, or an overflow among them
abbrev pub taken_meant : List Name → Option Wide → List CodeValue → Result (List Value) Overflow
taken_meant sorts None vs = Ok (values_meant sorts vs)
taken_meant sorts (Some w) vs = Err (overflow w)

-- the sort of an element that is known is one of the sorts
abbrev pub IsKnownNamed : List Name → KnownValue → Type 0
IsKnownNamed sorts (known.Value v) = IsNamed sorts v
IsKnownNamed sorts (known.Wide w) = Unit {0}

-- under an interpretation, this is what is to be known of the first terms of an order
abbrev pub AreKnownValues : TableView → Interpretation → List ℕ → List KnownValue → Type 0
AreKnownValues t i order ks = (j : ℕ) (d : KnownValue) → j < length ks → known_meant t.sorts (get_or ks j d)
    ≡ bounded_value i [] (number_term t (get_or order j 0))
