-- That what is left to do is pending.
use Rattle.std.proofs.Common.{arith}
use Rattle.alethe_reader.specs.declared.coefficients.Pending.TheVariants as pendings
use Rattle.alethe_reader.specs.declared.coefficients.Here.TheVariants as places
use Rattle.alethe_reader.proofs.CoefficientTexts.{pushes}
use Rattle.alethe_reader.proofs.coefficients.go_down.Goals as goal

pub returns-in_ok-push-in-Opposite : goal.returns-in_ok-push-in-Opposite
returns-in_ok-push-in-Opposite c =
    pushes _ _ pendings.Negate (places.Text c.in-Opposite.first) _ _ c.in_ok-push-in-Opposite.ensures.items c.in-Opposite.ensures.number (omega (arith, c.in-Opposite.ensures.less))

pub returns-in_ok-push-in-Quotient : goal.returns-in_ok-push-in-Quotient
returns-in_ok-push-in-Quotient c =
    pushes _ _ (pendings.DivideBy c.in-Quotient.second) (places.Text c.in-Quotient.first) _ _ c.in_ok-push-in-Quotient.ensures.items c.in-Quotient.ensures.number (omega (arith, c.in-Quotient.ensures.less))
