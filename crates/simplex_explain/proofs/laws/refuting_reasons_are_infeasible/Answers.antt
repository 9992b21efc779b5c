-- A point that keeps all keeps those that cannot all hold.
use Rattle.simplex_explain.proofs.HeldReasons.{infeasible}
use Rattle.simplex_explain.proofs.laws.refuting_reasons_are_infeasible.Goals as goal

pub returns : goal.returns
returns c = infeasible
