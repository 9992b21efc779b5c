-- What is pending makes the whole of what is read here.
use Rattle.std.proofs.Common.{◌≡◌, ◌+◌}
use Rattle.smt_sexpr.specs.Items.{tree_meant}
use Rattle.spec_arithmetic.specs.Coefficients.{coefficient_of}
use Rattle.alethe_reader.specs.Coefficients.{resumed, all_steps, number_here, steps_here}
use Rattle.alethe_reader.proofs.coefficients.coefficient_of.Given as goal

abbrev pub invariant-steps : goal.invariant-steps
invariant-steps l = resumed l.pending.items (number_here l.here) ≡ coefficient_of (tree_meant l.text)

abbrev pub decreases-steps : goal.decreases-steps
decreases-steps l = all_steps l.pending.items + steps_here l.here
