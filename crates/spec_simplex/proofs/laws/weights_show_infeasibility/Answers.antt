-- At a point that keeps the literals the sum would be at most 0, and below 0 where a summand is strict.
use Rattle.std.proofs.lemmas.List.Elements.{recursion_from_All}
use Rattle.spec_simplex.specs.Points.{KeepsLiteral}
use Rattle.spec_simplex.specs.Weights.{IsSummand}
use Rattle.spec_simplex.proofs.Infeasible.{no_point}
use Rattle.spec_simplex.proofs.laws.weights_show_infeasibility.Goals as goal

pub returns : goal.returns
returns c = λ xs a k p m. no_point xs (recursion_from_All IsSummand xs a) k p (recursion_from_All (KeepsLiteral p) _ m)
