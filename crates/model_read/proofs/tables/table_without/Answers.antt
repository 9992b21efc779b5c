-- A table without rows.
use Rattle.spec_sorts.specs.Signatures.{known_as}
use Rattle.spec_model_files.specs.Definitions.{declared_symbol}
use Rattle.term_core.specs.Symbols.{symbol_at}
use Rattle.model_read.proofs.TablesMade.{usual_is}
use Rattle.model_read.proofs.tables.table_without.Goals as goal

pub returns-clause-means : goal.returns-clause-means
returns-clause-means c g m =
    let t = c.args.table.now in
    usual_is t.sorts (declared_symbol (known_as g (symbol_at t.symbols c.args.symbol).name)) c.new.result.items _ c.new.ensures.items (c.value_without.ensures.means g m)
