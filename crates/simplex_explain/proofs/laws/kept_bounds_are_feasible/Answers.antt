-- The point has for a term the value of the variable that stands for it.
use Rattle.simplex_explain.proofs.Feasible.{feasible}
use Rattle.simplex_explain.proofs.laws.kept_bounds_are_feasible.Goals as goal

pub returns : goal.returns
returns c = feasible
