-- It rests on the same.
use Rattle.spec_derivations.proofs.Deriving.{stays_derived}
use Rattle.spec_derivations.proofs.growing.derived_clauses_stay_derived.Goals as goal

pub returns : goal.returns
returns c p q d x h l = stays_derived p q d x h l
