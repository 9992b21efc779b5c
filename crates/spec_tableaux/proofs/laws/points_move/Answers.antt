use Rattle.spec_tableaux.proofs.Steps.{moves_solve}
use Rattle.spec_tableaux.proofs.UpdatingNonbasic.{moved_moves}
use Rattle.spec_tableaux.proofs.laws.points_move.Goals as goal

pub returns : goal.returns
returns c d = record { made = moved_moves; solves = moves_solve }
