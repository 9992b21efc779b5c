use Rattle.spec_numbers.specs.Bounds.{multiplied}
use Rattle.ratio128.specs.Meant.{fraction}
use Rattle.spec_tableaux.specs.Deltas.{delta_scaled}
use Rattle.delta_num.proofs.Results.{base_fails, tilt_fails, both_are}
use Rattle.delta_num.proofs.delta.Delta.scale.Goals as goal

pub returns-in_err-base : goal.returns-in_err-base
unfolding delta_scaled
returns-in_err-base c =
    base_fails c.from_residual.result c.in_err-base.field-0.0 (multiplied (fraction c.args.by) (fraction c.args.a.base)) (multiplied (fraction c.args.by) (fraction c.args.a.tilt))
    c.from_residual.ensures.1 c.in_err-base.ensures

pub returns-in_err-tilt : goal.returns-in_err-tilt
unfolding delta_scaled
returns-in_err-tilt c =
    tilt_fails c.from_residual-in_err-tilt.result c.in_err-tilt.field-0.0 c.in_ok-base.base (multiplied (fraction c.args.by) (fraction c.args.a.base)) (multiplied (fraction c.args.by) (fraction c.args.a.tilt))
    c.from_residual-in_err-tilt.ensures.1 c.in_ok-base.ensures c.in_err-tilt.ensures

pub returns : goal.returns
unfolding delta_scaled
returns c =
    both_are c.in_ok-base.base c.in_ok-tilt.tilt (multiplied (fraction c.args.by) (fraction c.args.a.base)) (multiplied (fraction c.args.by) (fraction c.args.a.tilt))
    c.in_ok-base.ensures c.in_ok-tilt.ensures
