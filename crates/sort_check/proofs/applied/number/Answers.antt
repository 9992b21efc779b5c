-- A number that is too wide.
use Rattle.std.proofs.Common.{sym}
use Rattle.term_reader.proofs.Tables.{keeps_same}
use Rattle.sort_check.proofs.applied.number.Goals as goal

pub returns-in-Err : goal.returns-in-Err
returns-in-Err c = record { keeps = keeps_same c.args.table.now; ends = sym c.in-Err.ensures }
