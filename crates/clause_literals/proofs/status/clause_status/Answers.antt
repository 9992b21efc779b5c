-- That the whole clause is gone over.
use Rattle.std.proofs.Common.{false}
use Rattle.std.proofs.lemmas.List.{take_more, take_all}
use Rattle.clause_literals.proofs.status.clause_status.Goals as goal

pub loop-m-preserved : goal.loop-m-preserved
loop-m-preserved c = rw (take_more c.args.clause.now c.loop-m.m-index (record { term = record { 0 = 0 }; positive = false }) c.loop-m-test.true) (c.status_with-status.ensures _ c.loop-m.invariant)

pub returns : goal.returns
returns c = rw (take_all _ _ c.loop-m-test.false) at c.loop-m.invariant
