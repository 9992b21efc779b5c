-- A search that begins with fewer clauses.
use Rattle.spec_derivations.proofs.Asserting.{learned, conflict}
use Rattle.spec_derivations.proofs.growing.assumptions_may_be_asserted.Goals as goal

pub returns-clause-learned : goal.returns-clause-learned
returns-clause-learned c p q d earlier cs terms interface asserted h = learned p q terms interface asserted d earlier cs h

pub returns-clause-conflict : goal.returns-clause-conflict
returns-clause-conflict c p q d earlier cs terms interface asserted h = conflict p q terms interface asserted d earlier cs h
