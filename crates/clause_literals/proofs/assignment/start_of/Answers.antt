-- That the set has the complements, and no literal with its own.
use Rattle.std.proofs.lemmas.List.{take_all, get_or_default}
use Rattle.clause_literals.proofs.Start.{complements, start_more, start_made}
use Rattle.clause_literals.proofs.assignment.start_of.Goals as goal

pub returns-then-contains : goal.returns-then-contains
returns-then-contains c = complements c.args.clause.now c.loop-l.l-index _ c.loop-l-test.true (get_or_default c.args.clause.now c.loop-l.l-index _ _ c.loop-l-test.true) c.loop-l.held c.loop-l.invariant.made c.if-contains.ensures

pub loop-l-preserved : goal.loop-l-preserved
loop-l-preserved c =
    let adds = rw c.negated.ensures at c.in_ok-add.ensures in
    record {
      made = start_made c.args.clause.now c.loop-l.l-index _ c.loop-l-test.true (get_or_default c.args.clause.now c.loop-l.l-index _ _ c.loop-l-test.true) c.loop-l.held _ adds c.loop-l.invariant.made;
      consistent = start_more c.loop-l.held _ _ adds c.loop-l.invariant.consistent c.if-contains.ensures;
    }

pub returns : goal.returns
returns c = let h = rw (take_all _ _ c.loop-l-test.false) at c.loop-l.invariant.made in (h, c.loop-l.invariant.consistent)
