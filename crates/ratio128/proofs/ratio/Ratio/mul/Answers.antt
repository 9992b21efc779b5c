use Rattle.spec_numbers.specs.Fractions.{times}
use Rattle.spec_numbers.specs.Bounds.{fits, multiplied}
use Rattle.spec_numbers.specs.declared.Op.TheVariants.{Mul}
use Rattle.ratio128.specs.Meant.{fraction}
use Rattle.ratio128.proofs.Bounded.{outcome_is}
use Rattle.ratio128.proofs.ratio.Ratio.mul.Goals as goal

pub returns : goal.returns
unfolding multiplied
returns c =
    let x = fraction c.args.self in let y = fraction c.args.other in
    outcome_is c.product_of.result (fits (times x y)) (times x y) (record { op = Mul; left = c.args.self; right = c.args.other }) c.ok_or.result c.product_of.ensures c.ok_or.ensures.value
