-- A definition by its name and its table.
use Rattle.term_core.specs.Symbols.{symbol_at}
use Rattle.model_read.specs.Shapes.{definition_view}
use Rattle.model_read.specs.Definitions.{table_by, definition_by}
use Rattle.model_read.proofs.Stopping.{stops_with}
use Rattle.model_read.proofs.DefinitionTexts.{definition_is, definition_no_table, definition_no_name}
use Rattle.model_read.proofs.definitions.definition_by.Goals as goal

pub returns-in-Ok-table_of-clause-reads : goal.returns-in-Ok-table_of-clause-reads
returns-in-Ok-table_of-clause-reads c g names m marked =
    definition_is g names (definition_view c.args.parts) (symbol_at c.args.table.now.symbols c.in-Ok.symbol) _ (c.in-Ok.ensures.reads g names m marked) (c.in-Ok-table_of.ensures.reads g m)

pub returns-in-Err-table_of-clause-reads : goal.returns-in-Err-table_of-clause-reads
returns-in-Err-table_of-clause-reads c g names m marked =
    let s = symbol_at c.args.table.now.symbols c.in-Ok.symbol in
    stops_with (table_by g s (definition_view c.args.parts)) (definition_by g names (definition_view c.args.parts)) c.in-Err-table_of.error
    (λ f h. definition_no_table g names (definition_view c.args.parts) s _ (c.in-Ok.ensures.reads g names m marked) h) (c.in-Err-table_of.ensures.reads g m)

pub returns-in-Err-clause-reads : goal.returns-in-Err-clause-reads
returns-in-Err-clause-reads c g names m marked = definition_no_name g names (definition_view c.args.parts) _ (c.in-Err.ensures.reads g names m marked)
