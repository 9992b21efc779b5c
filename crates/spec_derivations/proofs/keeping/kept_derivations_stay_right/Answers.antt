-- Inference by inference.
use Rattle.spec_derivations.proofs.Kept.{right, says, derived}
use Rattle.spec_derivations.proofs.keeping.kept_derivations_stay_right.Goals as goal

pub returns-clause-right : goal.returns-clause-right
returns-clause-right c old new kept h d = right old new kept h d

pub returns-clause-says : goal.returns-clause-says
returns-clause-says c old new kept n h lt = says old new kept h n lt

pub returns-clause-derived : goal.returns-clause-derived
returns-clause-derived c terms old new kept n h lt d = derived old new kept h terms n lt d
