-- That the divisor is read next.
use Rattle.std.proofs.Common.{refl, arith}
use Rattle.alethe_reader.specs.declared.coefficients.Pending.TheVariants as pendings
use Rattle.alethe_reader.specs.declared.coefficients.Here.TheVariants as places
use Rattle.alethe_reader.proofs.CoefficientTexts.{pushes}
use Rattle.alethe_reader.proofs.coefficients.go_up.Goals as goal

pub returns-in_ok-push-in-DivideBy : goal.returns-in_ok-push-in-DivideBy
returns-in_ok-push-in-DivideBy c =
    rw c.in-DivideBy.is (pushes _ _ (pendings.Divide c.args.number) (places.Text c.in-DivideBy.text) _ _ c.in_ok-push-in-DivideBy.ensures.items refl (omega arith))
