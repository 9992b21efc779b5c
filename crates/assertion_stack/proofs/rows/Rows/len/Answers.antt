-- There are as many as ends.
use Rattle.std.proofs.Common.{length, ap, arith}
use Rattle.assertion_stack.proofs.RowEnds.{rows_long}
use Rattle.assertion_stack.proofs.rows.Rows.len.Goals as goal

pub returns : goal.returns
returns c = omega (arith, rows_long c.self.inside.bytes.items 0 c.self.inside.ends.items, ap length c.self.view_is, c.len.ensures)
