-- What one more literal does.
use Rattle.clause_literals.proofs.Statuses.{false_more, true_more, first_open, same_open, two_open, still_open, still_true}
use Rattle.clause_literals.proofs.status.status_with.Goals as goal

pub returns-then-contains : goal.returns-then-contains
returns-then-contains c front h = false_more _ front _ _ (rw (← c.negated.ensures) c.if-contains.ensures) h

pub returns-then-contains-2 : goal.returns-then-contains-2
returns-then-contains-2 c front h = true_more _ front _ c.if-contains-2.ensures

pub returns-then-same : goal.returns-then-same
returns-then-same c front h = same_open _ front _ _ _ c.in-Unit.is c.if-same.ensures h

pub returns-in-Falsified : goal.returns-in-Falsified
returns-in-Falsified c front h = first_open _ front _ _ c.in-Falsified.is c.if-contains-2.ensures (rw (← c.negated.ensures) c.if-contains.ensures) h

pub returns-else-same : goal.returns-else-same
returns-else-same c front h = two_open _ front _ _ _ c.in-Unit.is c.if-same.ensures (rw (← c.negated.ensures) c.if-contains.ensures) h

pub returns-in-Unresolved : goal.returns-in-Unresolved
returns-in-Unresolved c front h = still_open _ front _ _ c.in-Unresolved.is h

pub returns-in-Satisfied : goal.returns-in-Satisfied
returns-in-Satisfied c front h = still_true _ front _ _ c.in-Satisfied.is h
