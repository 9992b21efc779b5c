use Rattle.std.proofs.Common.{◌≡◌, ◌++◌}
use Rattle.spec_reading.specs.Names.{names_bound}
use Rattle.smt_sexpr.specs.Items.{trees_meant}
use Rattle.sort_check.specs.Walks.{sizes}
use Rattle.sort_check.proofs.mentions.bind_names.Given as goal

abbrev pub invariant-bindings : goal.invariant-bindings
invariant-bindings l = l.inner ++ names_bound (trees_meant l.rest) ≡ l.fn.inner ++ names_bound (trees_meant l.fn.bindings)

abbrev pub decreases-bindings : goal.decreases-bindings
decreases-bindings l = sizes (trees_meant l.rest)
