-- That clauses count as sets.
use Rattle.clause_literals.proofs.Advancing.{held_on}
use Rattle.clause_literals.proofs.Quiet.{no_conflict, conflicts_too, derived_too, sets_there, sets_back, sets_once}
use Rattle.clause_literals.proofs.propagation.refutes.Goals as goal

pub propagate-requires-clause-once : goal.propagate-requires-clause-once
propagate-requires-clause-once c = rw c.deref.ensures.value (sets_once _ _ c.in_ok-sets.ensures)

pub returns-then-branch : goal.returns-then-branch
returns-then-branch c =
    let refuted = rw (c.if-branch.true, c.deref.ensures.value) at c.in_ok-propagate.ensures in
    λ start d. conflicts_too _ _ (sets_back _ _ c.in_ok-sets.ensures) start (refuted start (λ l i. derived_too _ _ (sets_there _ _ c.in_ok-sets.ensures) start l (d l i)))

pub returns : goal.returns
returns c =
    let quiet = rw (c.if-branch.false, c.deref.ensures.value) at c.in_ok-propagate.ensures in
    λ start within conflict. no_conflict _ _ _ (λ l i. held_on _ _ _ quiet.advances l (within l i)) (quiet.advances.consistent c.requires) quiet.inert (conflicts_too _ _ (sets_there _ _ c.in_ok-sets.ensures) start conflict)
