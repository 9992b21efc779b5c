use Rattle.std.proofs.Common.{rules}
use mir.Syntax.{w128}
use mir.Val.{SFits}
use Rattle.spec_numbers.specs.Fractions.{opposite}
use Rattle.ratio128.proofs.Signed.{negated}
use Rattle.ratio128.proofs.ratio.Ratio.neg.Goals as goal

pub returns : goal.returns
unfolding opposite
returns c =
    let f : SFits w128 c.args.self.num = search rules in
    λ i. record { num = negated c.args.self.num f c.args.self.parts.num_fits i; den = c.args.self.den }
