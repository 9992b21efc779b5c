-- That what checks assume was read.
use Rattle.spec_commands.specs.Stack.{empty_stack}
use Rattle.spec_commands.proofs.Asked.{step_assumes, current_assumes}
use Rattle.spec_commands.proofs.assumptions_are_read.Goals as goal

pub returns-clause-taken : goal.returns-clause-taken
returns-clause-taken c = step_assumes

pub returns-clause-current : goal.returns-clause-current
returns-clause-current c = λ limit text k here is. current_assumes limit empty_stack k is.commands here is.here
