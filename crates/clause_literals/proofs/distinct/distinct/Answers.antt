-- That the set has all literals.
use Rattle.std.proofs.Common.{false, ◌∙◌}
use Rattle.std.proofs.lemmas.List.{take_all}
use Rattle.clause_literals.proofs.Once.{set_of, taken}
use Rattle.clause_literals.proofs.distinct.distinct.Goals as goal

pub loop-l-preserved : goal.loop-l-preserved
loop-l-preserved c = taken c.args.clause.now c.loop-l.l-index (record { term = record { 0 = 0 }; positive = false }) c.loop-l-test.true c.loop-l.taken.keys c.insert.new.self.keys c.in-Ok.ensures.keys c.loop-l.invariant

pub returns : goal.returns
returns c = set_of c.args.clause.now c.loop-l.taken.keys c.in_ok-made.made.items (c.in_ok-made.ensures.items ∙ c.as_slice.ensures.keys) c.as_slice.ensures.unique (rw (take_all _ _ c.loop-l-test.false) at c.loop-l.invariant)
