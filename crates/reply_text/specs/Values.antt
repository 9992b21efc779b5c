-- The names that a value is written with.
use Rattle.std.specs.Prelude.{◌≡◌, List}
use Rattle.spec_text.specs.Bytes.{Name}
use Rattle.term_core.specs.Symbols.{sort_name}
use Rattle.term_walks.specs.declared.values.Value.{Value}
use Rattle.term_walks.specs.declared.values.Value.TheVariants as values

-- the sort of an element has this name
abbrev pub IsSortOf : List Name → Value → Name → Type 0
IsSortOf sorts (values.Element s k) n = sort_name sorts s ≡ n
IsSortOf sorts v n = Unit {0}
