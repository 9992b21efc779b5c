-- The lines are built up from the prefix.
use Rattle.spec_proof_texts.proofs.Planned.{planned}
use Rattle.spec_proof_texts.proofs.laws.planned_lines_are_right.Goals as goal

pub returns : goal.returns
returns c = planned
