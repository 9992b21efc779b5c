-- Each line is read back, and so is what it assumes.
use Rattle.spec_proof_texts.proofs.Assumed.{assumes_planned}
use Rattle.spec_proof_texts.proofs.laws.printed_proofs_assume_what_is_planned.Goals as goal

pub returns : goal.returns
returns c = assumes_planned
