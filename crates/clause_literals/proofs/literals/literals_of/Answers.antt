-- That the literals are those of the whole clause.
use Rattle.std.proofs.lemmas.List.{take_all}
use Rattle.clause_literals.proofs.TableLiterals.{means_more}
use Rattle.clause_literals.proofs.literals.literals_of.Goals as goal

pub loop-id-preserved : goal.loop-id-preserved
loop-id-preserved c = means_more _ c.args.clause.now c.loop-id.id-index (record { 0 = 0 }) _ _ _ c.loop-id-test.true c.in_ok-push.ensures.items c.literal.ensures.means c.literal.ensures.there c.loop-id.invariant

pub returns : goal.returns
returns c = rw (take_all _ _ c.loop-id-test.false) at c.loop-id.invariant
