use Rattle.spec_numbers.proofs.Gcd.{IsGcd-gcd}
use Rattle.spec_numbers.proofs.laws.gcd_is_greatest.Goals as goal

pub returns : goal.returns
returns c a b = IsGcd-gcd a b
