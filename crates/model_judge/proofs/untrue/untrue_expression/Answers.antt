-- The fault of its term, where it is.
use Rattle.model_judge.proofs.untrue.untrue_expression.Goals as goal

pub returns-in-Ok-Some : goal.returns-in-Ok-Some
returns-in-Ok-Some c i h = rw c.in-Ok-Some.field-0-is at (c.in-Ok-Some.ensures i c.args.expression.now.at h)

pub returns-in-Ok-None : goal.returns-in-Ok-None
returns-in-Ok-None c i h = rw c.in-Ok-None.field-0-is at (c.in-Ok-None.ensures i c.args.expression.now.at h)
