use Rattle.std.proofs.Common.{subst}
use Rattle.spec_numbers.specs.Fractions.{times, inverse}
use Rattle.spec_numbers.specs.Bounds.{fits, divided}
use Rattle.spec_numbers.specs.declared.Op.TheVariants.{Div}
use Rattle.ratio128.specs.Meant.{fraction, IsNarrow}
use Rattle.ratio128.proofs.Bounded.{outcome_is}
use Rattle.ratio128.proofs.ratio.Ratio.div.Goals as goal

pub returns : goal.returns
unfolding divided
returns c =
    let x = fraction c.args.self in
    let narrow = subst (λ y. IsNarrow c.product_of.result (fits (times x y)) (times x y)) c.inverse_of.ensures c.product_of.ensures in
    outcome_is c.product_of.result (fits (times x (inverse (fraction c.args.other)))) (times x (inverse (fraction c.args.other))) (record { op = Div; left = c.args.self; right = c.args.other }) c.ok_or.result narrow c.ok_or.ensures.value
