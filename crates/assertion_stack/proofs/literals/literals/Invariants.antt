-- The literals are those before, and those that are left.
use Rattle.std.proofs.Common.{◌≡◌}
use Rattle.spec_sorts.specs.Signatures.{Signature}
use Rattle.smt_sexpr.specs.Items.{trees_meant, size_of}
use Rattle.term_reader.specs.Building.{KeepsTable}
use Rattle.term_reader.specs.Scopes.{ScopeMeans}
use Rattle.assertion_stack.proofs.ReadLiterals.{AreFirst}
use Rattle.assertion_stack.proofs.literals.literals.Given as goal

abbrev pub invariant-trees : goal.invariant-trees
invariant-trees l = record {
  keeps : KeepsTable l.fn.table l.table;
  same : l.scope ≡ l.fn.scope;
  first : (s : Signature) → ScopeMeans l.fn.table l.fn.scope s → AreFirst l.table s (trees_meant l.fn.trees) (trees_meant l.rest) l.ids.items;
}

abbrev pub decreases-trees : goal.decreases-trees
decreases-trees l = size_of l.rest
