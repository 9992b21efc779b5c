-- The tables up to here.
use Rattle.search_model.specs.Made.{AreBlank}
use Rattle.search_model.proofs.rows.blank_tables.Given as goal

abbrev pub invariant-symbols : goal.invariant-symbols
invariant-symbols l = AreBlank l.table l.at l.tables.items
