-- An order of numbers is an atom of linear arithmetic.
use Rattle.std.proofs.Common.{sym, ap}
use Rattle.std.specs.Prelude.{is_some}
use Rattle.solve_core.proofs.choosing.is_order_of_choice.Goals as goal

pub returns-then-is_choice_of : goal.returns-then-is_choice_of
returns-then-is_choice_of c = λ e. ap is_some (sym (rw c.in-Some.is at c.sides_of.ensures.means))

pub returns-else-is_choice_of : goal.returns-else-is_choice_of
returns-else-is_choice_of c = λ e. ap is_some (sym (rw c.in-Some.is at c.sides_of.ensures.means))
