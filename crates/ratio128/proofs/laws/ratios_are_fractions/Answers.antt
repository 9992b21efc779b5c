use Rattle.ratio128.specs.Meant.{fraction}
use Rattle.ratio128.proofs.Bounded.{reduced, fits_true}
use Rattle.ratio128.proofs.Same.{same_ratio}
use Rattle.ratio128.proofs.laws.ratios_are_fractions.Goals as goal

pub returns : goal.returns
returns c = record {
  reduced = reduced;
  bounded = λ a. fits_true (fraction a) a.parts.num_fits a.parts.den_fits;
  same = same_ratio;
}
