-- Texts and terms are those of the same assertions.
use Rattle.assertion_stack.proofs.Stacks.{one_for_each}
use Rattle.assertion_stack.proofs.laws.each_assertion_has_its_text.Goals as goal

pub returns : goal.returns
returns c limit x s h = one_for_each limit x s h
