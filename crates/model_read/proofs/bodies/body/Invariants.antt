-- The rows that were read come before what is left.
use Rattle.std.proofs.Common.{◌≡◌, map}
use Rattle.spec_sorts.specs.Signatures.{Signature}
use Rattle.spec_model_files.specs.Bodies.{body_read}
use Rattle.smt_sexpr.specs.Items.{tree_meant, size_of}
use Rattle.term_core.specs.Symbols.{sort_meant, sorts_meant}
use Rattle.term_reader.specs.Scopes.{ScopeMeans}
use Rattle.term_walks.specs.Valuations.{row_meant, AreRowsNamed}
use Rattle.model_read.specs.Bodies.{named_sorts, with_rows}
use Rattle.model_read.proofs.bodies.body.Given as goal

abbrev pub invariant-rows : goal.invariant-rows
invariant-rows l = record {
  reads : (g : Signature) → ScopeMeans l.table l.scope g → with_rows (map (row_meant l.table.sorts) l.rows.items) (body_read g (named_sorts l.names (sorts_meant l.table.sorts l.sorts)) (sort_meant l.table.sorts l.gives) (tree_meant l.inner))
      ≡ body_read g (named_sorts l.names (sorts_meant l.table.sorts l.sorts)) (sort_meant l.table.sorts l.gives) (tree_meant l.text);
  named : AreRowsNamed l.table.sorts l.rows.items;
}

abbrev pub decreases-rows : goal.decreases-rows
decreases-rows l = size_of l.inner
