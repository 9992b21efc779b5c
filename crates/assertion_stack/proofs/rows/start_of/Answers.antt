-- A row begins where the one before it ends.
use Rattle.std.proofs.Common.{◌∙◌}
use Rattle.assertion_stack.proofs.RowEnds.{begin_zero, begin_after}
use Rattle.assertion_stack.proofs.rows.start_of.Goals as goal

pub returns-then-place-eq0 : goal.returns-then-place-eq0
returns-then-place-eq0 c = begin_zero c.args.ends.now.items c.args.place c.if-place-eq0.true

pub returns : goal.returns
returns c = c.index.ensures ∙ begin_after c.args.ends.now.items c.args.place c.index.result.now c.if-place-eq0.false c.requires
