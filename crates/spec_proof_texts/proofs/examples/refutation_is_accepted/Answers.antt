-- By the lines of the refutation, each of which is right.
use Rattle.std.proofs.Common.{arith}
use Rattle.spec_checking.specs.Examples.{contradiction, the_check}
use Rattle.spec_checking.specs.ProofTexts.{contradiction_is_current}
use Rattle.spec_models.specs.Values.{numeral}
use Rattle.spec_proof_texts.specs.Examples.{refutation}
use Rattle.spec_proof_texts.proofs.Refutation.{right}
use Rattle.spec_proof_texts.proofs.examples.refutation_is_accepted.Goals as goal

pub returns : goal.returns
unfolding numeral
returns c = record {
  alone = c.printed_proofs_are_accepted.ensures.alone contradiction 1 the_check refutation contradiction_is_current right (omega arith, omega arith);
  answered = c.printed_proofs_are_accepted.ensures.answered contradiction 1 the_check refutation contradiction_is_current right (omega arith, omega arith);
}
