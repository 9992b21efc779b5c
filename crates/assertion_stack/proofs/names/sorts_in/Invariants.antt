-- The sorts are those before, and those that are left.
use Rattle.std.proofs.Common.{◌≡◌}
use Rattle.spec_sorts.specs.Signatures.{Signature}
use Rattle.spec_reading.specs.Sorts.{sorts_in}
use Rattle.smt_sexpr.specs.Items.{trees_meant, size_of}
use Rattle.term_core.specs.Symbols.{HaveSortsIn, sorts_meant}
use Rattle.term_core.specs.Tables.{TableView}
use Rattle.term_reader.specs.Scopes.{ScopeMeans}
use Rattle.assertion_stack.proofs.SortLists.{with_front}
use Rattle.assertion_stack.proofs.names.sorts_in.Given as goal

abbrev pub invariant-trees : goal.invariant-trees
invariant-trees l = record {
  there : (t : TableView) (s : Signature) → ScopeMeans t l.scope s → HaveSortsIn t.sorts l.sorts.items;
  gives : (t : TableView) (s : Signature) → ScopeMeans t l.scope s → with_front (sorts_meant t.sorts l.sorts.items) (sorts_in s (trees_meant l.rest)) ≡ sorts_in s (trees_meant l.trees);
}

abbrev pub decreases-trees : goal.decreases-trees
decreases-trees l = size_of l.rest
