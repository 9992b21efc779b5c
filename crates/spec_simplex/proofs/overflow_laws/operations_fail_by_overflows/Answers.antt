-- By the test of each operation.
use Rattle.spec_simplex.proofs.Operations.{sum_overflows, difference_overflows, product_overflows, quotient_overflows}
use Rattle.spec_simplex.proofs.overflow_laws.operations_fail_by_overflows.Goals as goal

pub returns-clause-sum : goal.returns-clause-sum
returns-clause-sum c = sum_overflows

pub returns-clause-difference : goal.returns-clause-difference
returns-clause-difference c = difference_overflows

pub returns-clause-product : goal.returns-clause-product
returns-clause-product c = product_overflows

pub returns-clause-quotient : goal.returns-clause-quotient
returns-clause-quotient c = quotient_overflows
