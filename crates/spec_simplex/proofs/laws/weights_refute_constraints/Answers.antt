-- By the parts of the rule's sum, which are the forms of the summands or their opposites.
use Rattle.std.proofs.lemmas.List.Elements.{recursion_from_All}
use Rattle.spec_simplex.specs.Weights.{IsSummand}
use Rattle.spec_simplex.proofs.Refuting.{clause_taken}
use Rattle.spec_simplex.proofs.laws.weights_refute_constraints.Goals as goal

pub returns : goal.returns
returns c = λ xs a k. clause_taken xs (recursion_from_All IsSummand xs a) k
