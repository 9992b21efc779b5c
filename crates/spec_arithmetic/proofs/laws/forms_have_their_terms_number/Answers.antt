-- By recursion on the term.
use Rattle.std.proofs.Common.{ap}
use Rattle.spec_sorts.specs.Values.{number_in}
use Rattle.spec_arithmetic.proofs.FormNumbers.{form_number}
use Rattle.spec_arithmetic.proofs.Linear.{linear_number, difference_number}
use Rattle.spec_arithmetic.proofs.laws.forms_have_their_terms_number.Goals as goal

pub returns-clause-all : goal.returns-clause-all
returns-clause-all c = λ symbols n t f reduced w s e. ap number_in (form_number symbols n reduced t f e (record { term = w; sort = s })).value

pub returns-clause-linear : goal.returns-clause-linear
returns-clause-linear c = λ symbols n t f reduced l e. linear_number symbols n reduced t f e l

pub returns-clause-difference : goal.returns-clause-difference
returns-clause-difference c = λ symbols n atom s t f reduced ls lt e. (difference_number symbols n reduced atom s t f e ls lt).0
