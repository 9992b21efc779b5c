-- That the whole clause is gone over.
use Rattle.std.proofs.lemmas.List.{take_more, take_all}
use Rattle.congruence_explain.proofs.chain.left_of.Goals as goal

pub loop-m-preserved : goal.loop-m-preserved
loop-m-preserved c = rw (take_more c.args.clause.now c.loop-m.m-index (record { term = record { 0 = 0 }; positive = Rattle.std.proofs.Common.false }) c.loop-m-test.true) (c.left_with-left.ensures _ c.loop-m.invariant)

pub returns : goal.returns
returns c = rw (take_all _ _ c.loop-m-test.false) at c.loop-m.invariant
