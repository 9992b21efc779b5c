use Rattle.simplex_numbers.proofs.Tilts.{inward}
use Rattle.simplex_numbers.proofs.Flat.{flat_within}
use Rattle.simplex_numbers.proofs.laws.bounds_at_numbers_are_kept_strictly.Goals as goal

pub returns : goal.returns
returns c = record { inward = inward; within = λ held tilts e p v. flat_within e p held tilts v }
