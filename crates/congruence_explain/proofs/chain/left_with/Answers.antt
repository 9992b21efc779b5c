-- What one more literal does.
use Rattle.congruence_explain.proofs.Lefts.{false_more, first_left, same_left, two_left}
use Rattle.congruence_explain.proofs.chain.left_with.Goals as goal

pub returns-then-contains : goal.returns-then-contains
returns-then-contains c front h = false_more _ front _ _ (rw (← c.negated.ensures) c.if-contains.ensures) h

pub returns-then-same : goal.returns-then-same
returns-then-same c front h = same_left _ front _ _ _ c.in-One.is c.if-same.ensures h

pub returns-in-Nothing : goal.returns-in-Nothing
returns-in-Nothing c front h = first_left _ front _ _ c.in-Nothing.is (rw (← c.negated.ensures) c.if-contains.ensures) h

pub returns-else-same : goal.returns-else-same
returns-else-same c front h = two_left _ front _ _ _ c.in-One.is c.if-same.ensures (rw (← c.negated.ensures) c.if-contains.ensures) h
