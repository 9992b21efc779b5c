-- Literal by literal.
use Rattle.search_loop.proofs.SearchClauses.{false_more}
use Rattle.search_loop.proofs.implying.are_false_but.Goals as goal

pub loop-id-preserved-then-same : goal.loop-id-preserved-then-same
loop-id-preserved-then-same c = false_more c.args.table.now c.args.clause.now c.loop-id.id-index _ c.loop-id-test.true c.literal-m.result c.literal-m.ensures.there c.literal-m.ensures.means c.ids_are_unique.ensures c.args.trail.now.literals c.args.one c.loop-id.invariant
    (λ other. absurd (other c.if-same.ensures))

pub loop-id-preserved : goal.loop-id-preserved
loop-id-preserved c = false_more c.args.table.now c.args.clause.now c.loop-id.id-index _ c.loop-id-test.true c.literal-m.result c.literal-m.ensures.there c.literal-m.ensures.means c.ids_are_unique.ensures c.args.trail.now.literals c.args.one c.loop-id.invariant
    (λ other. c.is_false.ensures c.if-not-is_false.false)
