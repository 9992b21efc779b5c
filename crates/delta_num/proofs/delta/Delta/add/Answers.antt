use Rattle.spec_numbers.specs.Bounds.{added}
use Rattle.ratio128.specs.Meant.{fraction}
use Rattle.spec_tableaux.specs.Deltas.{delta_added}
use Rattle.delta_num.proofs.Results.{base_fails, tilt_fails, both_are}
use Rattle.delta_num.proofs.delta.Delta.add.Goals as goal

pub returns-in_err-base : goal.returns-in_err-base
unfolding delta_added
returns-in_err-base c =
    base_fails c.from_residual.result c.in_err-base.field-0.0 (added (fraction c.args.a.base) (fraction c.args.b.base)) (added (fraction c.args.a.tilt) (fraction c.args.b.tilt))
    c.from_residual.ensures.1 c.in_err-base.ensures

pub returns-in_err-tilt : goal.returns-in_err-tilt
unfolding delta_added
returns-in_err-tilt c =
    tilt_fails c.from_residual-in_err-tilt.result c.in_err-tilt.field-0.0 c.in_ok-base.base (added (fraction c.args.a.base) (fraction c.args.b.base)) (added (fraction c.args.a.tilt) (fraction c.args.b.tilt))
    c.from_residual-in_err-tilt.ensures.1 c.in_ok-base.ensures c.in_err-tilt.ensures

pub returns : goal.returns
unfolding delta_added
returns c =
    both_are c.in_ok-base.base c.in_ok-tilt.tilt (added (fraction c.args.a.base) (fraction c.args.b.base)) (added (fraction c.args.a.tilt) (fraction c.args.b.tilt))
    c.in_ok-base.ensures c.in_ok-tilt.ensures
