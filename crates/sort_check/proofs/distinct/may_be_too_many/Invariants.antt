use Rattle.std.specs.Prelude.{⊤}
use Rattle.smt_sexpr.specs.Items.{size_of}
use Rattle.sort_check.proofs.distinct.may_be_too_many.Given as goal

abbrev pub invariant-arguments : goal.invariant-arguments
invariant-arguments l = ⊤

abbrev pub decreases-arguments : goal.decreases-arguments
decreases-arguments l = size_of l.rest
