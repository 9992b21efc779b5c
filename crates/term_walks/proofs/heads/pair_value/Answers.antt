-- Two values are taken as one step.
use Rattle.std.proofs.Common.{[]}
use Rattle.ratio128.specs.Meant.{fraction, overflow}
use Rattle.term_walks.specs.Valuations.{value_meant}
use Rattle.term_walks.specs.Operations.{operated}
use Rattle.term_walks.proofs.Folding.{pair_ok, step_err}
use Rattle.term_walks.proofs.heads.pair_value.Goals as goal

pub returns-in-Ok-clause-exact : goal.returns-in-Ok-clause-exact
returns-in-Ok-clause-exact c sorts =
    pair_ok (operated c.args.op) (value_meant sorts c.args.left) (value_meant sorts c.args.right) (fraction c.number.result) (fraction c.number-2.result) (fraction c.in-Ok.number) c.in-Ok.ensures (c.number.ensures sorts) (c.number-2.ensures sorts)

pub returns-in-Err-clause-exact : goal.returns-in-Err-clause-exact
returns-in-Err-clause-exact c sorts =
    step_err (operated c.args.op) (value_meant sorts c.args.left) (value_meant sorts c.args.right) [] (fraction c.number.result) (fraction c.number-2.result) (overflow c.in-Err.wide) c.in-Err.ensures (c.number.ensures sorts) (c.number-2.ensures sorts)
