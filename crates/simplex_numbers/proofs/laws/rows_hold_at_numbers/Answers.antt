use Rattle.simplex_numbers.proofs.Rows.{rows_at}
use Rattle.simplex_numbers.proofs.laws.rows_hold_at_numbers.Goals as goal

pub returns : goal.returns
returns c = rows_at
