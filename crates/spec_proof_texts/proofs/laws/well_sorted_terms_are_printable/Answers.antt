-- By the sorts of the term's head and arguments.
use Rattle.spec_proof_texts.proofs.Sorted.{printable}
use Rattle.spec_proof_texts.proofs.laws.well_sorted_terms_are_printable.Goals as goal

pub returns : goal.returns
returns c = λ g t own w r. printable g own t w r
