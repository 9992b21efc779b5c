-- By how such terms are made.
use Rattle.spec_derivations.specs.Orders.{whole_terms}
use Rattle.spec_proof_texts.proofs.Search.{whole_readable, made_readable, atom_readable}
use Rattle.spec_proof_texts.proofs.readable_laws.search_makes_readable_terms.Goals as goal

pub returns-clause-lemmas : goal.returns-clause-lemmas
returns-clause-lemmas c = λ p each t made. made_readable (whole_terms p) (whole_readable p each) t made

pub returns-clause-atoms : goal.returns-clause-atoms
returns-clause-atoms c = atom_readable
