-- Where trees begin is where those begin that were passed, and then those that are left.
use Rattle.std.proofs.Common.{◌≡◌, ◌++◌}
use Rattle.smt_sexpr.specs.Items.{trees_meant, size_of}
use Rattle.assertion_stack.specs.Assertions.{tree_offsets}
use Rattle.assertion_stack.proofs.assuming.offsets_of.Given as goal

abbrev pub invariant-trees : goal.invariant-trees
invariant-trees l = tree_offsets (trees_meant l.trees) ≡ l.offsets.items ++ tree_offsets (trees_meant l.rest)

abbrev pub decreases-trees : goal.decreases-trees
decreases-trees l = size_of l.rest
