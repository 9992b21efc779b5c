-- That each clause is made a set.
use Rattle.std.proofs.lemmas.List.{take_all, length-map}
use Rattle.clause_literals.specs.Literals.{lists}
use Rattle.clause_literals.proofs.Once.{each_more}
use Rattle.clause_literals.proofs.distinct.distinct_each.Goals as goal

pub loop-clause-preserved : goal.loop-clause-preserved
loop-clause-preserved c = each_more c.args.clauses.now _ _ c.loop-clause.clause-index c.clause-item.result _ c.loop-clause-test.true c.clause-item.is c.in_ok-push.ensures.items (rw c.deref.ensures.value at c.in_ok-distinct.ensures) c.loop-clause.invariant

pub returns : goal.returns
returns c = rw (take_all c.loop-clause.clause-index (lists c.args.clauses.now) (rw length-map c.loop-clause-test.false)) at c.loop-clause.invariant
