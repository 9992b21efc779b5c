use Rattle.std.proofs.Common.{sym, ◌∙◌, ap}
use Rattle.spec_numbers.specs.Fractions.{gcd}
use Rattle.ratio128.proofs.Bounded.{coprime_to_one}
use Rattle.ratio128.proofs.parts.gcd_of.Goals as goal

pub returns-then-b-eq1-clause-value : goal.returns-then-b-eq1-clause-value
returns-then-b-eq1-clause-value c = sym (ap (gcd c.args.a) c.if-b-eq1.true ∙ coprime_to_one c.args.a)
