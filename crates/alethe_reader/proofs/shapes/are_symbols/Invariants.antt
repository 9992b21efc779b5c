-- All are symbols where those that are left are.
use Rattle.std.proofs.Common.{◌≡◌}
use Rattle.spec_checking.specs.Commands.{are_symbols}
use Rattle.smt_sexpr.specs.Items.{trees_meant, size_of}
use Rattle.alethe_reader.proofs.shapes.are_symbols.Given as goal

abbrev pub invariant-symbols : goal.invariant-symbols
invariant-symbols l = are_symbols (trees_meant l.trees) ≡ are_symbols (trees_meant l.rest)

abbrev pub decreases-symbols : goal.decreases-symbols
decreases-symbols l = size_of l.rest
