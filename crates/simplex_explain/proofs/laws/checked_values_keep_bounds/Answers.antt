-- The rule is done, and nonbasic variables keep their bounds.
use Rattle.simplex_explain.proofs.Checked.{checked_meets}
use Rattle.simplex_explain.proofs.laws.checked_values_keep_bounds.Goals as goal

pub returns : goal.returns
returns c = checked_meets
