use Rattle.assertion_stack.proofs.Stacks.{stack_grown}
use Rattle.assertion_stack.proofs.laws.stacks_hold_in_grown_tables.Goals as goal

pub returns : goal.returns
returns c limit old new x s h k = stack_grown limit old new x s h k
