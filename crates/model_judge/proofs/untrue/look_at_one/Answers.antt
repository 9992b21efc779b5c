-- It is the first that is not true, or the others are looked at.
use Rattle.model_judge.specs.Untrue.{untrue_view}
use Rattle.model_judge.proofs.Firsts.{first_found, first_passed, is_there}
use Rattle.model_judge.proofs.untrue.look_at_one.Goals as goal

pub untrue_expression-requires-clause-there : goal.untrue_expression-requires-clause-there
untrue_expression-requires-clause-there c = is_there c.args.table.now c.args.expressions.now c.args.place c.expression_at.result.now c.requires.place c.expression_at.ensures c.requires.there

pub returns-in-Ok-Some-clause-goes : goal.returns-in-Ok-Some-clause-goes
returns-in-Ok-Some-clause-goes c i h =
    first_found c.args.table.now i c.args.expressions.now c.args.place c.expression_at.result.now (untrue_view c.in-Ok-Some.found) c.requires.place c.expression_at.ensures (rw c.in-Ok-Some.field-0-is at (c.in-Ok-Some.ensures i h))

pub returns-in-Ok-None-clause-goes : goal.returns-in-Ok-None-clause-goes
returns-in-Ok-None-clause-goes c i h =
    first_passed c.args.table.now i c.args.expressions.now c.args.place c.expression_at.result.now c.requires.place c.expression_at.ensures (rw c.in-Ok-None.field-0-is at (c.in-Ok-None.ensures i h))
