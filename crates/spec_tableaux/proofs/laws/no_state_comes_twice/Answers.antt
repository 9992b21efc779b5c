-- A state that came twice would come as often as one likes.
use Rattle.spec_tableaux.proofs.Cycles.{no_cycle}
use Rattle.spec_tableaux.proofs.Repeats.{repeats_none, returns_never}
use Rattle.spec_tableaux.proofs.laws.no_state_comes_twice.Goals as goal

pub returns : goal.returns
returns c d = record { ends = no_cycle; parts = repeats_none; moves = returns_never }
