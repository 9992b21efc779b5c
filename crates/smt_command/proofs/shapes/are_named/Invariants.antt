-- All are such lists where those that are left are.
use Rattle.std.proofs.Common.{◌≡◌}
use Rattle.spec_sorts.specs.Forms.{are_named}
use Rattle.smt_sexpr.specs.Items.{trees_meant, size_of}
use Rattle.smt_command.proofs.shapes.are_named.Given as goal

abbrev pub invariant-named : goal.invariant-named
invariant-named l = are_named (trees_meant l.trees) ≡ are_named (trees_meant l.rest)

abbrev pub decreases-named : goal.decreases-named
decreases-named l = size_of l.rest
