-- What the status of a premise leaves.
use Rattle.clause_literals.proofs.Tracking.{takes_none, takes_unit, takes_open, takes_true}
use Rattle.clause_literals.proofs.propagation.take_up.Goals as goal

pub returns-then-left-gt1 : goal.returns-then-left-gt1
returns-then-left-gt1 c = takes_none _ _ _ c.if-left-gt1.true

pub returns-in_ok-add-in-Unit : goal.returns-in_ok-add-in-Unit
returns-in_ok-add-in-Unit c = takes_unit _ _ _ _ _ (rw c.in-Unit.is at c.clause_status.ensures) c.in_ok-add-in-Unit.ensures

pub returns-in-Unresolved : goal.returns-in-Unresolved
returns-in-Unresolved c = takes_open _ _ _ (rw c.in-Unresolved.is at c.clause_status.ensures)

pub returns-in-Satisfied : goal.returns-in-Satisfied
returns-in-Satisfied c = takes_true _ _ _ (rw c.in-Satisfied.is at c.clause_status.ensures)
