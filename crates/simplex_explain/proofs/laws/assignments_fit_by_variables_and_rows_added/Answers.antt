-- Nothing else of the assignment is asked.
use Rattle.simplex_explain.proofs.Assignments.{fit}
use Rattle.simplex_explain.proofs.laws.assignments_fit_by_variables_and_rows_added.Goals as goal

pub returns : goal.returns
returns c = fit
