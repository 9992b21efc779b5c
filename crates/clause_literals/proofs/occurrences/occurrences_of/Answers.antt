-- That each clause is in the lists.
use Rattle.std.proofs.Common.{◌∙◌}
use Rattle.std.proofs.lemmas.List.{length-map}
use Rattle.clause_literals.specs.Literals.{lists}
use Rattle.clause_literals.proofs.Once.{clause_at}
use Rattle.clause_literals.proofs.Noting.{indexed_none, indexed_more, indexed_all}
use Rattle.clause_literals.proofs.occurrences.occurrences_of.Goals as goal

pub loop-number-init : goal.loop-number-init
loop-number-init c = indexed_none _ _ c.new-occurrences.ensures.literals c.new-occurrences.ensures.lists

pub note_each-requires : goal.note_each-requires
note_each-requires c = c.loop-number.invariant.whole

pub loop-number-preserved : goal.loop-number-preserved
loop-number-preserved c = indexed_more _ _ (lists c.args.clauses.now) c.loop-number.number _ (rw length-map c.loop-number-test.true) (c.deref.ensures.value ∙ clause_at c.args.clauses.now c.loop-number.number c.index-clauses-number.result c.loop-number-test.true c.index-clauses-number.is) c.loop-number.invariant c.in_ok-note_each.ensures

pub returns : goal.returns
returns c = indexed_all _ (lists c.args.clauses.now) c.loop-number.number (rw length-map c.loop-number-test.false) c.loop-number.invariant
