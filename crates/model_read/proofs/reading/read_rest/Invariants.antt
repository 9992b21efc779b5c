-- The definitions up to here were read.
use Rattle.std.proofs.Common.{◌≡◌, ℕ, List, length}
use Rattle.spec_sorts.specs.Signatures.{Signature}
use Rattle.term_reader.specs.Scopes.{ScopeMeans}
use Rattle.model_read.specs.Remaining.{bytes_left}
use Rattle.model_read.specs.Readings.{HasDefinitions}
use Rattle.model_read.proofs.reading.read_rest.Given as goal

abbrev pub invariant-definitions : goal.invariant-definitions
invariant-definitions l = record {
  tables : length l.made.tables.items ≡ length l.table.symbols;
  marks : length l.made.marks.items ≡ length l.table.symbols;
  reads : (g : Signature) (text : List ℕ) → ScopeMeans l.table l.scope g → HasDefinitions l.table g text l.fn.reader l.fn.made
      → HasDefinitions l.table g text l.reader l.made;
}

abbrev pub decreases-definitions : goal.decreases-definitions
decreases-definitions l = bytes_left l.reader
