-- That what is asked about was read.
use Rattle.spec_commands.specs.Stack.{empty_stack, signature_of}
use Rattle.spec_commands.specs.Checks.{asked}
use Rattle.spec_commands.proofs.Kept.{empty_kept, current_kept, sound_values, sound_formulas}
use Rattle.spec_commands.proofs.Asked.{current_assumes, asked_sound}
use Rattle.spec_commands.proofs.what_is_asked_has_its_texts_value.Goals as goal

pub returns-clause-value : goal.returns-clause-value
returns-clause-value c = λ limit text k here is i.
    sound_values limit (signature_of here.stack) (asked here) i
    (asked_sound limit here (current_kept limit empty_stack k is.commands here is.here (empty_kept limit)) (current_assumes limit empty_stack k is.commands here is.here))

pub returns-clause-formula : goal.returns-clause-formula
returns-clause-formula c = λ limit text k here is.
    sound_formulas limit (signature_of here.stack) (asked here)
    (asked_sound limit here (current_kept limit empty_stack k is.commands here is.here (empty_kept limit)) (current_assumes limit empty_stack k is.commands here is.here))
