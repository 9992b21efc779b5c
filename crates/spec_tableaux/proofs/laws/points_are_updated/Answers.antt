use Rattle.spec_tableaux.proofs.UpdatingNonbasic.{updates_made, updates_updated}
use Rattle.spec_tableaux.proofs.laws.points_are_updated.Goals as goal

pub returns : goal.returns
returns c d = record { made = updates_made; nonbasic_updated = updates_updated }
