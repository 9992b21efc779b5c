-- That a part is strict, or none is.
use Rattle.std.proofs.Common.{sym, ◌∙◌}
use Rattle.linear_form.proofs.SumSteps.{strict_more, strict_end}
use Rattle.linear_form.proofs.sums.is_strict.Goals as goal

pub returns-then-is_strict_part : goal.returns-then-is_strict_part
returns-then-is_strict_part c = λ t.
    sym (c.loop-part.invariant.same t ∙ strict_more t c.args.parts.now c.loop-part.part-index c.part-item.result c.loop-part-test.true c.part-item.is _ (c.if-is_strict_part.ensures t))

pub loop-part-preserved : goal.loop-part-preserved
loop-part-preserved c = record { same = λ t. c.loop-part.invariant.same t ∙ strict_more t c.args.parts.now c.loop-part.part-index c.part-item.result c.loop-part-test.true c.part-item.is _ (c.if-is_strict_part.ensures t) }

pub returns : goal.returns
returns c = λ t. sym (c.loop-part.invariant.same t ∙ strict_end t c.args.parts.now c.loop-part.part-index c.loop-part-test.false)
