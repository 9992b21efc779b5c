-- When a definition can be used.
use Rattle.std.specs.Prelude.{◌≡◌, true}
use Rattle.spec_sorts.specs.Terms.{is_sorted}
use Rattle.spec_sorts.specs.Signatures.{Definition}
use Rattle.spec_reading.specs.Reading.{sorts_taken}
use Rattle.term_core.specs.Tables.{TableView}
use Rattle.term_reader.specs.declared.scope.Macro.{Macro}
use Rattle.term_reader.specs.Scopes.{IsMacro}

-- it is a definition whose term is well sorted where the parameters have their sorts
abbrev pub IsUsable : TableView → Macro → Type 0
IsUsable t m = (d : Definition) × IsMacro t m d × (is_sorted (sorts_taken d) d.term ≡ true)
