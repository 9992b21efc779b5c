-- By the head.
use Rattle.spec_proof_texts.proofs.Search.{head_readable}
use Rattle.spec_proof_texts.proofs.readable_laws.linear_terms_with_decimals_are_readable.Goals as goal

pub returns : goal.returns
returns c = head_readable
