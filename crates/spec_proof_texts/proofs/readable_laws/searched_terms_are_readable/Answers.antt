-- By what arguments, equalities and order facts have.
use Rattle.spec_proof_texts.proofs.Search.{whole_decimal, whole_readable}
use Rattle.spec_proof_texts.proofs.readable_laws.searched_terms_are_readable.Goals as goal

pub returns-clause-decimals : goal.returns-clause-decimals
returns-clause-decimals c = whole_decimal

pub returns-clause-whole : goal.returns-clause-whole
returns-clause-whole c = whole_readable
