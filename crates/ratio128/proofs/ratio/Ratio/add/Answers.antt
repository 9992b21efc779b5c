use Rattle.spec_numbers.specs.Fractions.{plus}
use Rattle.spec_numbers.specs.Bounds.{sum_fits, added}
use Rattle.spec_numbers.specs.declared.Op.TheVariants.{Add}
use Rattle.ratio128.specs.Meant.{fraction}
use Rattle.ratio128.proofs.Bounded.{outcome_is}
use Rattle.ratio128.proofs.ratio.Ratio.add.Goals as goal

pub returns : goal.returns
unfolding added
returns c =
    let x = fraction c.args.self in let y = fraction c.args.other in
    outcome_is c.sum_of.result (sum_fits x y) (plus x y) (record { op = Add; left = c.args.self; right = c.args.other }) c.ok_or.result c.sum_of.ensures c.ok_or.ensures.value
