-- That each of the premises loses a literal.
use Rattle.std.proofs.Common.{arith, refl, get_or}
use Rattle.clause_literals.proofs.Stepping.{losing_none, losing_more, losing_all, refuted_here}
use Rattle.clause_literals.proofs.propagation.pass_on.Goals as goal

pub loop-number-init : goal.loop-number-init
loop-number-init c = losing_none _ _ _ _

pub loop-number-preserved : goal.loop-number-preserved
loop-number-preserved c =
    let took = rw (c.in-Some.is, c.deref.ensures.value) at c.in_ok-n.ensures in
    let number = get_or c.args.losing.now c.loop-number.number-index 0 in
    losing_more c.args.premises.now number c.index-premises-number.result (c.requires.below c.loop-number.number-index 0 c.loop-number-test.true) c.index-premises-number.is c.args.losing.now c.loop-number.number-index c.loop-number-test.true refl _ _ _ _ c.loop-number.left c.saturating_sub.result _ (omega arith) c.saturating_sub.ensures c.loop-number.invariant took

pub returns-in-None : goal.returns-in-None
returns-in-None c =
    let found = rw (c.in-None.is, c.deref.ensures.value) at c.in_ok-n.ensures in
    refuted_here c.args.premises.now (get_or c.args.losing.now c.loop-number.number-index 0) c.index-premises-number.result (c.requires.below c.loop-number.number-index 0 c.loop-number-test.true) c.index-premises-number.is _ _ c.loop-number.invariant.advances found

pub returns : goal.returns
returns c = losing_all _ c.args.losing.now c.loop-number.number-index (omega arith) _ _ _ _ c.loop-number.invariant
