-- The texts of trees are those that were printed, and then those of the trees that are left.
use Rattle.std.proofs.Common.{◌≡◌, ◌++◌}
use Rattle.smt_sexpr.specs.Items.{trees_meant, size_of}
use Rattle.assertion_stack.specs.Assertions.{tree_texts}
use Rattle.assertion_stack.proofs.assuming.texts_of.Given as goal

abbrev pub invariant-trees : goal.invariant-trees
invariant-trees l = tree_texts (trees_meant l.trees) ≡ l.texts ++ tree_texts (trees_meant l.rest)

abbrev pub decreases-trees : goal.decreases-trees
decreases-trees l = size_of l.rest
