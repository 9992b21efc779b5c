use Rattle.std.proofs.Common.{subst}
use Rattle.spec_numbers.specs.Fractions.{plus, opposite}
use Rattle.spec_numbers.specs.Bounds.{sum_fits, subtracted}
use Rattle.spec_numbers.specs.declared.Op.TheVariants.{Sub}
use Rattle.ratio128.specs.Meant.{fraction, IsNarrow}
use Rattle.ratio128.proofs.Bounded.{outcome_is}
use Rattle.ratio128.proofs.ratio.Ratio.sub.Goals as goal

pub returns : goal.returns
unfolding subtracted
returns c =
    let x = fraction c.args.self in
    let narrow = subst (λ y. IsNarrow c.sum_of.result (sum_fits x y) (plus x y)) c.neg.ensures c.sum_of.ensures in
    outcome_is c.sum_of.result (sum_fits x (opposite (fraction c.args.other))) (plus x (opposite (fraction c.args.other))) (record { op = Sub; left = c.args.self; right = c.args.other }) c.ok_or.result narrow c.ok_or.ensures.value
