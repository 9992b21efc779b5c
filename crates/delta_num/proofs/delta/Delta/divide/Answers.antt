use Rattle.spec_numbers.specs.Bounds.{divided}
use Rattle.ratio128.specs.Meant.{fraction}
use Rattle.spec_tableaux.specs.Deltas.{delta_divided}
use Rattle.delta_num.proofs.Results.{base_fails, tilt_fails, both_are}
use Rattle.delta_num.proofs.delta.Delta.divide.Goals as goal

pub returns-in_err-base : goal.returns-in_err-base
unfolding delta_divided
returns-in_err-base c =
    base_fails c.from_residual.result c.in_err-base.field-0.0 (divided (fraction c.args.a.base) (fraction c.args.by)) (divided (fraction c.args.a.tilt) (fraction c.args.by))
    c.from_residual.ensures.1 c.in_err-base.ensures

pub returns-in_err-tilt : goal.returns-in_err-tilt
unfolding delta_divided
returns-in_err-tilt c =
    tilt_fails c.from_residual-in_err-tilt.result c.in_err-tilt.field-0.0 c.in_ok-base.base (divided (fraction c.args.a.base) (fraction c.args.by)) (divided (fraction c.args.a.tilt) (fraction c.args.by))
    c.from_residual-in_err-tilt.ensures.1 c.in_ok-base.ensures c.in_err-tilt.ensures

pub returns : goal.returns
unfolding delta_divided
returns c =
    both_are c.in_ok-base.base c.in_ok-tilt.tilt (divided (fraction c.args.a.base) (fraction c.args.by)) (divided (fraction c.args.a.tilt) (fraction c.args.by))
    c.in_ok-base.ensures c.in_ok-tilt.ensures
