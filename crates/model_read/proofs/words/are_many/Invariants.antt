-- There are as many trees as are still to come.
use Rattle.std.proofs.Common.{◌≡◌, ◌==◌}
use Rattle.spec_model_files.specs.Bodies.{tree_count}
use Rattle.smt_sexpr.specs.Items.{trees_meant, size_of}
use Rattle.model_read.proofs.words.are_many.Given as goal

abbrev pub invariant-trees : goal.invariant-trees
invariant-trees l = (tree_count (trees_meant l.rest) == l.left) ≡ (tree_count (trees_meant l.trees) == l.count)

abbrev pub decreases-trees : goal.decreases-trees
decreases-trees l = size_of l.rest
