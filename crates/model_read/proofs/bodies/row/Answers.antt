-- A row by its parts.
use Rattle.std.proofs.Common.{sym, ◌∙◌}
use Rattle.term_core.specs.Symbols.{sort_meant, sorts_meant}
use Rattle.model_read.specs.Shapes.{row_view}
use Rattle.model_read.specs.Bodies.{named_sorts}
use Rattle.model_read.proofs.BodyTexts.{row_is, row_stops, row_no_value_stops, row_other_stops}
use Rattle.model_read.proofs.bodies.row.Goals as goal

pub returns-then-not-is_word-clause-reads : goal.returns-then-not-is_word-clause-reads
returns-then-not-is_word-clause-reads c g m =
    row_other_stops c.args.table.now.sorts g (sort_meant c.args.table.now.sorts c.args.gives) (named_sorts c.args.names.now (sorts_meant c.args.table.now.sorts c.args.sorts.now)) c.args.at (row_view c.args.parts) c.bad_shape.result
    (sym c.is_word.ensures ∙ c.if-not-is_word.true) c.bad_shape.ensures

pub returns-in-Ok-value-clause-reads : goal.returns-in-Ok-value-clause-reads
returns-in-Ok-value-clause-reads c g m others =
    row_is g (sort_meant c.args.table.now.sorts c.args.gives) (named_sorts c.args.names.now (sorts_meant c.args.table.now.sorts c.args.sorts.now)) c.args.at (row_view c.args.parts) others _ _
    (sym c.is_word.ensures ∙ c.if-not-is_word.false) (c.in-Ok.ensures.reads g m) (c.in-Ok-value.ensures.reads g m)

pub returns-in-Err-value-clause-reads : goal.returns-in-Err-value-clause-reads
returns-in-Err-value-clause-reads c g m =
    row_no_value_stops c.args.table.now.sorts g (sort_meant c.args.table.now.sorts c.args.gives) (named_sorts c.args.names.now (sorts_meant c.args.table.now.sorts c.args.sorts.now)) c.args.at (row_view c.args.parts) c.in-Err-value.error _
    (sym c.is_word.ensures ∙ c.if-not-is_word.false) (c.in-Ok.ensures.reads g m) (c.in-Err-value.ensures.reads g m)

pub returns-in-Err-clause-reads : goal.returns-in-Err-clause-reads
returns-in-Err-clause-reads c g m =
    row_stops c.args.table.now.sorts g (sort_meant c.args.table.now.sorts c.args.gives) (named_sorts c.args.names.now (sorts_meant c.args.table.now.sorts c.args.sorts.now)) c.args.at (row_view c.args.parts) c.in-Err.error
    (sym c.is_word.ensures ∙ c.if-not-is_word.false) (c.in-Err.ensures.reads g m)
