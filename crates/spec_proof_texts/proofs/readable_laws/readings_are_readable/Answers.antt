-- By recursion on the text.
use Rattle.std.proofs.lemmas.List.Elements.{All-from_recursion, recursion_from_All}
use Rattle.spec_text.specs.Bytes.{Name}
use Rattle.spec_sorts.specs.Terms.{Term}
use Rattle.spec_sorts.specs.Signatures.{with_definitions}
use Rattle.spec_proof_texts.specs.Readable.{IsReadableWhole, IsReadableDeclaration}
use Rattle.spec_proof_texts.proofs.Readings.{text_readable, definition_readable}
use Rattle.spec_proof_texts.proofs.readable_laws.readings_are_readable.Goals as goal

pub returns-clause-term : goal.returns-clause-term
returns-clause-term c = λ w s b t r h e bound.
    (text_readable c.read_numbers_are_decimals.ensures w s b t r e (recursion_from_All IsReadableDeclaration s h) (recursion_from_All (λ (p : Name × Term). IsReadableWhole p.1) b bound)).0

pub returns-clause-made : goal.returns-clause-made
returns-clause-made c = λ w s b t r h e bound.
    All-from_recursion IsReadableDeclaration (with_definitions s r.made)
    (text_readable c.read_numbers_are_decimals.ensures w s b t r e (recursion_from_All IsReadableDeclaration s h) (recursion_from_All (λ (p : Name × Term). IsReadableWhole p.1) b bound)).1

pub returns-clause-defined : goal.returns-clause-defined
returns-clause-defined c = λ w s d ds h e.
    All-from_recursion IsReadableDeclaration (with_definitions s ds) (definition_readable c.read_numbers_are_decimals.ensures w s d ds e (recursion_from_All IsReadableDeclaration s h))
