-- The parameters that were read come before those that are left.
use Rattle.std.proofs.Common.{◌≡◌, ◌+◌, [], drop, take, length}
use Rattle.spec_sorts.specs.Signatures.{Signature}
use Rattle.spec_model_files.specs.Bodies.{tree_count}
use Rattle.spec_model_files.specs.Definitions.{parameters_read}
use Rattle.smt_sexpr.specs.Items.{trees_meant}
use Rattle.term_core.specs.Symbols.{sorts_meant}
use Rattle.term_reader.specs.Scopes.{ScopeMeans}
use Rattle.model_read.specs.Bodies.{named_sorts, with_values}
use Rattle.model_read.proofs.parameters.parameters.Given as goal

abbrev pub invariant-parameters : goal.invariant-parameters
invariant-parameters l = record {
  reads : (g : Signature) → ScopeMeans l.table l.scope g → with_values (named_sorts l.names (take l.k (sorts_meant l.table.sorts l.sorts))) (parameters_read g l.names (drop l.k (sorts_meant l.table.sorts l.sorts)) (trees_meant l.rest))
      ≡ parameters_read g [] (sorts_meant l.table.sorts l.sorts) (trees_meant l.texts);
  count : length l.names ≡ l.k;
  left : l.k + tree_count (trees_meant l.rest) ≡ length l.sorts;
}
