-- Each was read with a first part of the signature.
use Rattle.std.proofs.lemmas.List.Elements.{recursion_from_All}
use Rattle.spec_commands.specs.Stack.{signature_of}
use Rattle.spec_proof_texts.specs.Readable.{IsReadableDeclaration}
use Rattle.spec_proof_texts.proofs.Stacks.{kept_readable}
use Rattle.spec_proof_texts.proofs.readable_laws.assertions_are_readable.Goals as goal

pub returns : goal.returns
returns c = λ limit s k h. kept_readable c.read_numbers_are_decimals.ensures limit s k (recursion_from_All IsReadableDeclaration (signature_of s) h)
