-- A check that is missing.
use Rattle.std.proofs.Common.{inr, refl}
use Rattle.spec_checking.specs.ProofTexts.{contradiction_has_one_check}
use Rattle.spec_checking.proofs.examples.checks_are_there.Goals as goal

pub returns : goal.returns
returns c = inr (contradiction_has_one_check, refl)
