-- The tables of the symbols up to here.
use Rattle.std.proofs.Common.{◌≡◌, ◌<◌, ℕ, false, length, map, get_or, All}
use Rattle.spec_sorts.specs.Signatures.{Signature, known_as}
use Rattle.spec_model_files.specs.Definitions.{declared_symbol, usual_table}
use Rattle.term_core.specs.Symbols.{no_symbol}
use Rattle.term_reader.specs.Scopes.{ScopeMeans}
use Rattle.term_walks.specs.Valuations.{no_table, table_meant, IsTableNamed}
use Rattle.model_read.proofs.tables.Tables.new.Given as goal

abbrev pub invariant-symbols : goal.invariant-symbols
invariant-symbols l = record {
  count : length l.tables.items ≡ l.at;
  marked : length l.marks.items ≡ l.at;
  named : All (IsTableNamed l.table.sorts) l.tables.items;
  each : (g : Signature) → ScopeMeans l.table l.scope g → (k : ℕ) → k < l.at
      → get_or (map (table_meant l.table.sorts) l.tables.items) k no_table ≡ usual_table (declared_symbol (known_as g (get_or l.table.symbols k no_symbol).name));
  unmarked : (k : ℕ) → get_or l.marks.items k false ≡ false;
}
