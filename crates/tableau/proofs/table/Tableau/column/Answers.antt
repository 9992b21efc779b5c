use Rattle.std.proofs.Common.{subst, ◌∙◌, [], arith}
use Rattle.std.proofs.lemmas.List.{get_or_default}
use Rattle.tableau.specs.Entries.{rows_of}
use Rattle.tableau.specs.Views.{TableauView, IsColumn}
use Rattle.tableau.proofs.RowSets.{column_made}
use Rattle.tableau.proofs.table.Tableau.column.Goals as goal

pub returns-then-variable-len : goal.returns-then-variable-len
returns-then-variable-len c =
    subst (λ (t : TableauView). IsColumn t.rows c.args.variable c.as_slice.result.now) c.self.view_is
    (column_made (rows_of c.self.inside.rows.items) c.self.inside.columns.items c.args.variable c.as_slice.result.now c.index.result.now
    c.self.invariant.columns
    c.as_slice.ensures.same
    (c.index.ensures ∙ get_or_default c.self.inside.columns.items c.args.variable c.index.result.now [] (let k = c.len.ensures in let w = c.if-variable-len.true in omega arith))
    c.as_slice.ensures.once)
