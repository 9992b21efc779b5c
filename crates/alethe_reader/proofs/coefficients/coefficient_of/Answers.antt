-- That the step by what was pending last leaves fewer, and the same whole.
use Rattle.std.proofs.Common.{ap, arith}
use Rattle.alethe_reader.specs.Coefficients.{all_steps}
use Rattle.alethe_reader.proofs.CoefficientTexts.{steps_push, pops}
use Rattle.alethe_reader.proofs.coefficients.coefficient_of.Goals as goal

pub steps-smaller : goal.steps-smaller
steps-smaller c = omega (arith, c.in_ok-here-in-Read.ensures.fewer, ap all_steps c.in-Some.ensures.items, steps_push c.pop.new.self.items c.in-Some.last)

pub steps-preserved : goal.steps-preserved
steps-preserved c =
    pops _ c.steps.pending.items c.pop.new.self.items c.go_up.new.pending.items c.in-Some.last c.steps.here c.in_ok-here-in-Read.here c.in-Read.number _
    c.steps.invariant c.in-Read.is c.in-Some.ensures.items c.in_ok-here-in-Read.ensures
