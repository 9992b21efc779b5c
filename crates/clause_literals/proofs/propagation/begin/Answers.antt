-- That each premise is taken up.
use Rattle.std.proofs.Common.{arith, ◌∙◌}
use Rattle.clause_literals.proofs.Stepping.{begun_none, begun_more, begun_all, refuted_here}
use Rattle.clause_literals.proofs.propagation.begin.Goals as goal

pub loop-premise-init : goal.loop-premise-init
loop-premise-init c = begun_none _ _ _ c.new-left.ensures.items

pub loop-premise-preserved : goal.loop-premise-preserved
loop-premise-preserved c =
    let took = rw (c.in-Some.is, c.deref.ensures.value) at c.in_ok-n.ensures in
    begun_more c.args.premises.now c.loop-premise.premise-index c.premise-item.result c.loop-premise-test.true c.premise-item.is _ _ _ _ _ _ _ (c.len.ensures ∙ c.premise-item.result.ok.0) c.loop-premise.invariant took c.in_ok-push-in-Some.ensures.items

pub returns-in-None : goal.returns-in-None
returns-in-None c =
    let found = rw (c.in-None.is, c.deref.ensures.value) at c.in_ok-n.ensures in
    refuted_here c.args.premises.now c.loop-premise.premise-index c.premise-item.result c.loop-premise-test.true c.premise-item.is _ _ c.loop-premise.invariant.advances found

pub returns : goal.returns
returns c = begun_all c.args.premises.now c.loop-premise.premise-index (omega arith) _ _ _ c.loop-premise.invariant
