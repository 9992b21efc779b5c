-- The weight over the factor, or its size.
use Rattle.simplex_atoms.proofs.Weighing.{weighs, weight_reduced}
use Rattle.simplex_atoms.proofs.laws.bounds_have_weights.Goals as goal

pub returns-clause-reduced : goal.returns-clause-reduced
returns-clause-reduced c = weight_reduced

pub returns-clause-weight : goal.returns-clause-weight
returns-clause-weight c = weighs
