-- The rows are printed one after the other.
use Rattle.spec_models.proofs.Bodies.{printed_rows}
use Rattle.spec_models.proofs.laws.bodies_are_printed_by_rows.Goals as goal

pub returns : goal.returns
returns c = printed_rows
