-- Those that are true are passed.
use Rattle.std.proofs.Common.{arith}
use Rattle.model_judge.proofs.Firsts.{many_passed}
use Rattle.model_judge.proofs.untrue.look_at_many.Goals as goal

pub returns-in-Ok-true-clause-goes : goal.returns-in-Ok-true-clause-goes
returns-in-Ok-true-clause-goes c i h =
    many_passed c.args.table.now i c.args.expressions.now c.args.place c.end_of-end.result (omega (arith, c.end_of-end.ensures.more)) (c.in-Ok-true.ensures.shown i h c.in-Ok-true.field-0-test)
