use Rattle.std.proofs.Common.{◌≡◌}
use Rattle.spec_sorts.specs.Forms.{are_named}
use Rattle.smt_sexpr.specs.Items.{trees_meant, size_of}
use Rattle.term_reader.proofs.forms.are_named.Given as goal

abbrev pub invariant-bindings : goal.invariant-bindings
invariant-bindings l = are_named (trees_meant l.fn.bindings) ≡ are_named (trees_meant l.rest)

abbrev pub decreases-bindings : goal.decreases-bindings
decreases-bindings l = size_of l.rest
