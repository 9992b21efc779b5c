-- What was printed, what is left of the innermost list, and what follows the open ones come to all of it, after what was there.
use Rattle.std.proofs.Common.{◌+◌, ◌++◌}
use Rattle.spec_text.specs.Printed.{printed_all}
use Rattle.smt_sexpr.specs.Items.{trees_meant}
use Rattle.sort_check.specs.Walks.{sizes}
use Rattle.assertion_stack.specs.Printing.{KeepsFront, open_left}
use Rattle.assertion_stack.proofs.PrintedTrees.{Left}
use Rattle.assertion_stack.proofs.printing.print_all.Given as goal

abbrev pub invariant-trees : goal.invariant-trees
invariant-trees l =
    Left (l.fn.out.items ++ printed_all (trees_meant l.trees)) l.out.items (trees_meant l.rest) l.open.items
    × KeepsFront l.fn.out.items l.out.items

abbrev pub decreases-trees : goal.decreases-trees
decreases-trees l = sizes (trees_meant l.rest) + open_left l.open.items
