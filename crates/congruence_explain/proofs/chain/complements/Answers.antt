-- That all complements are there.
use Rattle.std.proofs.lemmas.List.{take_all, get_or_default}
use Rattle.clause_literals.proofs.Start.{start_made}
use Rattle.congruence_explain.proofs.chain.complements.Goals as goal

pub loop-l-preserved : goal.loop-l-preserved
loop-l-preserved c =
    let adds = rw c.negated.ensures at c.in_ok-add.ensures in
    start_made c.args.clause.now c.loop-l.l-index _ c.loop-l-test.true (get_or_default c.args.clause.now c.loop-l.l-index _ _ c.loop-l-test.true) c.loop-l.held _ adds c.loop-l.invariant

pub returns : goal.returns
returns c = rw (take_all _ _ c.loop-l-test.false) at c.loop-l.invariant
