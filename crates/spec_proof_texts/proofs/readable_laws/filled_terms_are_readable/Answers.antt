-- By recursion on the term.
use Rattle.std.proofs.lemmas.List.Elements.{recursion_from_All}
use Rattle.spec_proof_texts.specs.Readable.{IsReadableWhole}
use Rattle.spec_proof_texts.proofs.Filled.{filled_readable}
use Rattle.spec_proof_texts.proofs.readable_laws.filled_terms_are_readable.Goals as goal

pub returns : goal.returns
returns c = λ ts t each a. filled_readable ts (recursion_from_All IsReadableWhole ts each) t a
