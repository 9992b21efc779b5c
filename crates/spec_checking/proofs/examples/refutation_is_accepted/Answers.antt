-- Proofs that are accepted.
use Rattle.spec_checking.specs.Examples.{contradiction}
use Rattle.spec_checking.specs.ProofTexts.{listed_proof}
use Rattle.spec_checking.proofs.Verdicts.{refutation_verdict, listed_verdict}
use Rattle.spec_checking.proofs.examples.refutation_is_accepted.Goals as goal

pub returns : goal.returns
returns c =
    let accepted = (c.accepted_proofs_have_no_fault.ensures contradiction listed_proof 1).0 listed_verdict in
    record { row = refutation_verdict; list = listed_verdict; accepted = accepted; no_model = c.acceptance_is_sound.ensures contradiction listed_proof 1 accepted }
