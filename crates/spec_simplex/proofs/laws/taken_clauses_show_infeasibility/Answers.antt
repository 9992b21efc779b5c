-- The sum that is a contradiction, as given or turned, gives weights under which the literals cannot all hold.
use Rattle.std.proofs.lemmas.List.Elements.{recursion_from_All}
use Rattle.spec_simplex.specs.Points.{KeepsLiteral}
use Rattle.spec_simplex.specs.Weights.{IsSummand}
use Rattle.spec_simplex.proofs.Refuting.{IsNumeric}
use Rattle.spec_simplex.proofs.Taken.{taken_infeasible}
use Rattle.spec_simplex.proofs.laws.taken_clauses_show_infeasibility.Goals as goal

pub returns : goal.returns
returns c = λ xs a h e p m.
    taken_infeasible xs (recursion_from_All IsSummand xs a) (recursion_from_All IsNumeric xs h) e p (recursion_from_All (KeepsLiteral p) _ m)
