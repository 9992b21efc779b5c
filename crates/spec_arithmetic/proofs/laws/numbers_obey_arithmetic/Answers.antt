-- By recursion on the term, and by its head.
use Rattle.spec_sorts.specs.Terms.{app}
use Rattle.spec_arithmetic.proofs.FormNumbers.{number_reduced, number_obeys}
use Rattle.spec_arithmetic.proofs.Linear.{own_number}
use Rattle.spec_arithmetic.proofs.laws.numbers_obey_arithmetic.Goals as goal

pub returns-clause-reduced : goal.returns-clause-reduced
returns-clause-reduced c = λ symbols n t reduced w s. number_reduced symbols n reduced t (record { term = w; sort = s })

pub returns-clause-heads : goal.returns-clause-heads
returns-clause-heads c = λ symbols n i h ts w k. number_obeys symbols n i h ts k w

pub returns-clause-others : goal.returns-clause-others
returns-clause-others c = λ n h ts e. own_number n (app h ts) e
