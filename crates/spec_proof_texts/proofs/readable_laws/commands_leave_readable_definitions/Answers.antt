-- By what readings make.
use Rattle.std.proofs.lemmas.List.Elements.{All-nil, All-from_recursion, recursion_from_All}
use Rattle.spec_commands.proofs.Carried.{Property, each_weaker, each_empty}
use Rattle.spec_proof_texts.specs.Readable.{IsReadableDeclaration, AreReadable}
use Rattle.spec_proof_texts.proofs.Stacks.{GoodNames, step_good}
use Rattle.spec_proof_texts.proofs.readable_laws.commands_leave_readable_definitions.Goals as goal

-- the definitions alone
abbrev Readable : Property
Readable g assertions = AreReadable g

pub returns-clause-first : goal.returns-clause-first
returns-clause-first c = each_empty Readable (All-nil IsReadableDeclaration)

pub returns-clause-next : goal.returns-clause-next
returns-clause-next c = λ limit s t d e h.
    each_weaker GoodNames Readable (λ g assertions k. All-from_recursion IsReadableDeclaration g k) d.stack
    (step_good c.read_numbers_are_decimals.ensures limit s t d e (each_weaker Readable GoodNames (λ g assertions k. recursion_from_All IsReadableDeclaration g k) s h))
