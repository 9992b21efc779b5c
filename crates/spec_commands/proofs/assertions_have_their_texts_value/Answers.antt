-- That what is current was read.
use Rattle.spec_commands.specs.Stack.{empty_stack}
use Rattle.spec_commands.proofs.Kept.{empty_kept, current_kept, kept_values}
use Rattle.spec_commands.proofs.assertions_have_their_texts_value.Goals as goal

pub returns-clause-kept : goal.returns-clause-kept
returns-clause-kept c = λ limit text k here is. current_kept limit empty_stack k is.commands here is.here (empty_kept limit)

pub returns-clause-value : goal.returns-clause-value
returns-clause-value c = λ limit text k here is i. kept_values limit here.stack i (current_kept limit empty_stack k is.commands here is.here (empty_kept limit))
