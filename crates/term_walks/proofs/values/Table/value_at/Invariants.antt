-- What is left of the rows answers for the whole.
use Rattle.std.proofs.Common.{◌≡◌, List, map, drop}
use Rattle.spec_text.specs.Bytes.{Name}
use Rattle.spec_sorts.specs.Values.{first_fit}
use Rattle.term_core.specs.NameLists.{HaveNoTwice}
use Rattle.term_walks.specs.Valuations.{value_meant, values_meant, row_meant, AreNamed, AreRowsNamed}
use Rattle.term_walks.proofs.values.Table.value_at.Given as goal

abbrev pub invariant-rows : goal.invariant-rows
invariant-rows l = record {
  same : (sorts : List Name) → HaveNoTwice sorts → AreRowsNamed sorts l.self.rows.items → AreNamed sorts l.arguments
      → first_fit (map (row_meant sorts) (drop l.row-index l.row-items)) (value_meant sorts l.self.default) (values_meant sorts l.arguments)
      ≡ first_fit (map (row_meant sorts) l.self.rows.items) (value_meant sorts l.self.default) (values_meant sorts l.arguments);
}
