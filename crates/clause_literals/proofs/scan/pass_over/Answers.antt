-- That a pass goes over all premises.
use Rattle.clause_literals.specs.Literals.{lists}
use Rattle.clause_literals.proofs.Passes.{to_false, to_unit, to_inert, is_inert, before, behind, ended}
use Rattle.clause_literals.proofs.scan.pass_over.Goals as goal

pub returns-in-Falsified : goal.returns-in-Falsified
returns-in-Falsified c =
    let found = rw (c.in-Falsified.is, c.deref.ensures.value) at c.in_ok-take_up.ensures in
    to_false _ _ _ _ _ _ c.loop-at.invariant (before c.args.premises.now c.loop-at.at c.index-premises-at.result c.loop-at-test.true c.loop-at.auto.at c.index-premises-at.is) found

pub loop-at-preserved-in-Unit : goal.loop-at-preserved-in-Unit
loop-at-preserved-in-Unit c =
    let found = rw (c.in-Unit.is, c.deref.ensures.value) at c.in_ok-take_up.ensures in
    to_unit _ _ _ _ _ _ _ _ c.loop-at.invariant (before c.args.premises.now c.loop-at.at c.index-premises-at.result c.loop-at-test.true c.loop-at.auto.at c.index-premises-at.is) found.0 found.1

pub loop-at-preserved : goal.loop-at-preserved
loop-at-preserved c =
    let found = is_inert c.index-premises-at.result.items _ _ _ c.in-Unresolved.is (rw c.deref.ensures.value at c.in_ok-take_up.ensures) in
    to_inert _ _ _ _ _ _ _ c.loop-at.added c.loop-at.invariant found.1 found.0 (behind c.args.premises.now c.loop-at.at c.index-premises-at.result c.loop-at-test.true c.loop-at.auto.at c.index-premises-at.is)

pub returns-else-added : goal.returns-else-added
returns-else-added c = ended (lists c.args.premises.now) c.loop-at.at _ _ c.loop-at-test.false (rw c.if-added.false at c.loop-at.invariant)
