use Rattle.std.proofs.Common.{◌≡◌, ◌∙◌, ap, sym}
use Rattle.spec_tableaux.specs.Rows as definitions
use Rattle.spec_tableaux.specs.Numbers.{Number, numbers}
use Rattle.spec_tableaux.specs.CheckOverflows.{OverflowsExchange}
use Rattle.tableau.specs.declared.entries.Row.{Row}
use Rattle.tableau.specs.Entries.{entries_of, rows_of}
use Rattle.tableau.specs.Pivots.{pivot_meant, OverflowsPivot, OverflowsOther}
use Rattle.tableau.proofs.Changing.{entries_at}
use Rattle.tableau.proofs.Readying.{rows_ready}
use Rattle.tableau.proofs.RowOverflowing.{pivot_overflows, others_strain}
use Rattle.tableau.proofs.Telling.{passed_on, err_as}
use Rattle.tableau.proofs.table.changes.Goals as goal

pub returns-in_err-pivot-clause-wide : goal.returns-in_err-pivot-clause-wide
returns-in_err-pivot-clause-wide c =
    passed_on (OverflowsPivot c.args.entering (entries_of c.deref.result.now)) (OverflowsExchange (rows_of c.args.rows.now) c.args.leaving c.args.entering) c.from_residual.result c.in_err-pivot.field-0.0
    (pivot_overflows (rows_of c.args.rows.now) c.args.leaving c.args.entering (entries_of c.deref.result.now)
    (entries_at c.args.rows.now c.args.number c.index-rows-number.result (entries_of c.deref.result.now) c.requires.low c.index-rows-number.is (ap entries_of c.deref.ensures.value ∙ ap (λ (r : Row). entries_of r.entries.items) (sym c.index-rows-number.is))
    ∙ ap (λ (r : definitions.Row Number). r.entries) (sym c.requires.row)))
    c.from_residual.ensures.1 c.in_err-pivot.ensures.wide

pub changes_of-requires-clause-ready : goal.changes_of-requires-clause-ready
changes_of-requires-clause-ready c =
    let same : entries_of c.deref.result.now ≡ (definitions.row_of c.args.leaving (rows_of c.args.rows.now)).entries =
    entries_at c.args.rows.now c.args.number c.index-rows-number.result (entries_of c.deref.result.now) c.requires.low c.index-rows-number.is (ap entries_of c.deref.ensures.value ∙ ap (λ (r : Row). entries_of r.entries.items) (sym c.index-rows-number.is)) ∙ ap (λ (r : definitions.Row Number). r.entries) (sym c.requires.row) in
    rows_ready (rows_of c.args.rows.now) c.args.leaving c.args.entering (pivot_meant c.in_ok-pivot.pivot) c.requires.solved c.requires.pivot
    (c.in_ok-pivot.ensures.ok ∙ ap (definitions.pivot_of numbers c.args.leaving c.args.entering) same)

pub returns-clause-wide : goal.returns-clause-wide
returns-clause-wide c =
    let same : entries_of c.deref.result.now ≡ (definitions.row_of c.args.leaving (rows_of c.args.rows.now)).entries =
    entries_at c.args.rows.now c.args.number c.index-rows-number.result (entries_of c.deref.result.now) c.requires.low c.index-rows-number.is (ap entries_of c.deref.ensures.value ∙ ap (λ (r : Row). entries_of r.entries.items) (sym c.index-rows-number.is)) ∙ ap (λ (r : definitions.Row Number). r.entries) (sym c.requires.row) in
    err_as (OverflowsOther (pivot_meant c.in_ok-pivot.pivot) (rows_of c.args.rows.now)) (OverflowsExchange (rows_of c.args.rows.now) c.args.leaving c.args.entering) c.changes_of.result
    (others_strain (rows_of c.args.rows.now) c.args.leaving c.args.entering (pivot_meant c.in_ok-pivot.pivot) (c.in_ok-pivot.ensures.ok ∙ ap (definitions.pivot_of numbers c.args.leaving c.args.entering) same))
    c.changes_of.ensures.wide
