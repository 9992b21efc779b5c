use Rattle.spec_numbers.specs.Bounds.{multiplied}
use Rattle.ratio128.specs.Meant.{fraction}
use Rattle.spec_tableaux.specs.Deltas.{delta_evaluated}
use Rattle.delta_num.proofs.Results.{product_fails, then_added}
use Rattle.delta_num.proofs.delta.Delta.at.Goals as goal

pub returns-in_err-product : goal.returns-in_err-product
unfolding delta_evaluated
returns-in_err-product c =
    product_fails c.from_residual.result c.in_err-product.field-0.0 (multiplied (fraction c.args.a.tilt) (fraction c.args.eps)) (fraction c.args.a.base)
    c.from_residual.ensures.1 c.in_err-product.ensures

pub returns : goal.returns
unfolding delta_evaluated
returns c =
    then_added c.add.result c.in_ok-product.product (multiplied (fraction c.args.a.tilt) (fraction c.args.eps)) (fraction c.args.a.base)
    c.in_ok-product.ensures c.add.ensures
