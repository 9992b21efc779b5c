-- A stack on which nothing is stated yet.
use Rattle.std.proofs.Common.{ap}
use Rattle.term_core.specs.Tables.{TableView}
use Rattle.script_standing.proofs.load.current_in.Goals as goal

pub reaches_check-requires : goal.reaches_check-requires
reaches_check-requires c = c.new-stack.ensures c.new-table.result (ap (λ (t : TableView). t.sorts) c.new-table.ensures) (ap (λ (t : TableView). t.symbols) c.new-table.ensures)
