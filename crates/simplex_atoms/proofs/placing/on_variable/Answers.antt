-- The quotient is of the negative of the constant.
use Rattle.spec_numbers.specs.Fractions.{opposite}
use Rattle.ratio128.specs.Meant.{fraction}
use Rattle.simplex_atoms.proofs.Making.{opposite_of, wide_as}
use Rattle.simplex_atoms.proofs.placing.on_variable.Goals as goal

pub returns-in_err-bound-clause-wide : goal.returns-in_err-bound-clause-wide
returns-in_err-bound-clause-wide c =
    wide_as (fraction c.negative.result) (opposite (fraction c.args.constant)) (fraction c.args.entry.coefficient) c.from_residual.result c.in_err-bound.field-0.0
    (opposite_of c.args.constant c.negative.result c.negative.ensures) c.in_err-bound.ensures.wide c.from_residual.ensures.1
