-- That assertions are formulas.
use Rattle.spec_commands.specs.Stack.{empty_stack}
use Rattle.spec_commands.proofs.Kept.{empty_kept, current_kept, kept_formulas, kept_truths}
use Rattle.spec_commands.proofs.assertions_are_formulas.Goals as goal

pub returns-clause-formula : goal.returns-clause-formula
returns-clause-formula c = kept_formulas

pub returns-clause-value : goal.returns-clause-value
returns-clause-value c = kept_truths

pub returns-clause-at_check : goal.returns-clause-at_check
returns-clause-at_check c = λ limit text k here is i interprets. kept_truths limit here.stack i (current_kept limit empty_stack k is.commands here is.here (empty_kept limit)) interprets
