use Rattle.std.proofs.Common.{sym}
use Rattle.assertion_stack.proofs.Known.{other_function}
use Rattle.assertion_stack.proofs.names.is_function.Goals as goal

pub returns-in-None : goal.returns-in-None
returns-in-None c t s h = other_function s c.args.name.now c.has_function.result (sym c.in-None.ensures) (c.has_function.ensures t s h)
