-- By the operations on their fractions.
use Rattle.spec_simplex.proofs.Operations.{sum_overflows, difference_overflows, product_overflows, quotient_overflows}
use Rattle.spec_simplex.proofs.overflow_laws.numbers_fail_by_overflows.Goals as goal

pub returns-clause-sum : goal.returns-clause-sum
returns-clause-sum c = λ x y o w. sum_overflows x.fraction y.fraction o w

pub returns-clause-difference : goal.returns-clause-difference
returns-clause-difference c = λ x y o w. difference_overflows x.fraction y.fraction o w

pub returns-clause-product : goal.returns-clause-product
returns-clause-product c = λ x y o w. product_overflows x.fraction y.fraction o w

pub returns-clause-quotient : goal.returns-clause-quotient
returns-clause-quotient c = λ x y o w. quotient_overflows x.fraction y.fraction o w
