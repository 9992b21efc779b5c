-- The values that were read come before those that are left.
use Rattle.std.proofs.Common.{◌≡◌, drop}
use Rattle.spec_sorts.specs.Signatures.{Signature}
use Rattle.spec_model_files.specs.Bodies.{equalities_read}
use Rattle.smt_sexpr.specs.Items.{trees_meant}
use Rattle.term_core.specs.Symbols.{sorts_meant}
use Rattle.term_reader.specs.Scopes.{ScopeMeans}
use Rattle.term_walks.specs.Valuations.{values_meant, AreNamed}
use Rattle.model_read.specs.Bodies.{named_sorts, with_values}
use Rattle.model_read.proofs.bodies.equalities.Given as goal

abbrev pub invariant-parameters : goal.invariant-parameters
invariant-parameters l = record {
  reads : (g : Signature) → ScopeMeans l.table l.scope g → with_values (values_meant l.table.sorts l.values.items) (equalities_read g (drop l.k (named_sorts l.names (sorts_meant l.table.sorts l.sorts))) (trees_meant l.rest))
      ≡ equalities_read g (named_sorts l.names (sorts_meant l.table.sorts l.sorts)) (trees_meant l.texts);
  named : AreNamed l.table.sorts l.values.items;
}
