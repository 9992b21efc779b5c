use Rattle.std.proofs.Common.{ℕ, List, subst}
use Rattle.script_standing.specs.Loads.{Loads}
use Rattle.script_standing.proofs.load.current_at.Goals as goal

pub returns : goal.returns
returns c = subst (λ (t : List ℕ). Loads t c.args.at c.current_in.result) c.new.ensures c.current_in.ensures
