-- Commands lead to the check.
use Rattle.std.proofs.Common.{ℕ, List, All}
use Rattle.std.proofs.lemmas.List.Elements.{All-from_recursion}
use Rattle.spec_commands.specs.Stack.{Assertion, empty_stack, signature_of}
use Rattle.spec_commands.specs.Checks.{Check, asked, IsCurrent}
use Rattle.spec_commands.proofs.Asked.{current_assumes, asked_sound}
use Rattle.spec_commands.specs.Kept.{IsSoundStack}
use Rattle.spec_commands.proofs.Carried.{here, each_empty}
use Rattle.spec_derivations.proofs.Asked.{terms_have}
use Rattle.spec_proof_texts.specs.Readable.{IsReadableWhole, IsReadableDeclaration}
use Rattle.spec_proof_texts.proofs.Readings.{Good, ReadDecimals}
use Rattle.spec_proof_texts.proofs.Stacks.{GoodNames, current_good, sound_readable}
use Rattle.spec_proof_texts.proofs.readable_laws.checks_are_readable.Goals as goal

good_here : ReadDecimals → (limit : ℕ) (text : List ℕ) (k : ℕ) (here : Check) → IsCurrent limit text k here → Good (signature_of here.stack)
good_here decimal limit text k x is = here GoodNames x.stack (current_good decimal limit empty_stack k is.commands x is.here (each_empty GoodNames tt))

each_asked : ReadDecimals → (limit : ℕ) (text : List ℕ) (k : ℕ) (here : Check) → IsCurrent limit text k here → IsSoundStack limit here.stack → All (λ (a : Assertion). IsReadableWhole a.term) (asked here)
each_asked decimal limit text k here is kept =
    sound_readable decimal limit (signature_of here.stack) (asked here)
    (asked_sound limit here kept (current_assumes limit empty_stack k is.commands here is.here))
    (good_here decimal limit text k here is)

pub returns-clause-names : goal.returns-clause-names
returns-clause-names c = λ limit text k here is. All-from_recursion IsReadableDeclaration (signature_of here.stack) (good_here c.read_numbers_are_decimals.ensures limit text k here is)

pub returns-clause-asked : goal.returns-clause-asked
returns-clause-asked c = λ limit text k here is. each_asked c.read_numbers_are_decimals.ensures limit text k here is (c.assertions_have_their_texts_value.ensures.kept limit text k here is)

pub returns-clause-terms : goal.returns-clause-terms
returns-clause-terms c = λ limit text k here interface is.
    terms_have IsReadableWhole here interface (each_asked c.read_numbers_are_decimals.ensures limit text k here is (c.assertions_have_their_texts_value.ensures.kept limit text k here is))
