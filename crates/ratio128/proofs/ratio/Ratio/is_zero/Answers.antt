use Rattle.std.proofs.Common.{rules}
use mir.Syntax.{w128}
use mir.Val.{SFits}
use Rattle.ratio128.specs.Meant.{fraction}
use Rattle.ratio128.proofs.Bounded.{reduced}
use Rattle.ratio128.proofs.Signed.{zero_bits, bits_zero}
use Rattle.spec_numbers.proofs.Field.{zero_of}
use Rattle.std.proofs.Common.{ap}
use Rattle.spec_numbers.specs.Fractions.{Fraction}
use Rattle.ratio128.proofs.ratio.Ratio.is_zero.Goals as goal

pub returns : goal.returns
returns c =
    let f : SFits w128 c.args.self.num = search rules in (
      λ t. zero_of (fraction c.args.self) (reduced c.args.self) (zero_bits c.args.self.num f t),
      λ e. bits_zero c.args.self.num (ap (λ (x : Fraction). x.num) e),
    )
