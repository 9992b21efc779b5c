use Rattle.std.proofs.Common.{subst, arith}
use Rattle.tableau.specs.Entries.{rows_of}
use Rattle.tableau.specs.Views.{TableauView}
use Rattle.tableau.proofs.Places.{placed_at, placed_in, IsPlaced}
use Rattle.tableau.proofs.table.Tableau.row_of.Goals as goal

pub returns-then-variable-len-clause-row : goal.returns-then-variable-len-clause-row
returns-then-variable-len-clause-row c =
    subst (λ (t : TableauView). IsPlaced c.args.variable t.rows c.index.result.now) c.self.view_is
    (placed_at c.args.variable (rows_of c.self.inside.rows.items) c.index.result.now
    (placed_in c.args.variable (rows_of c.self.inside.rows.items) c.self.inside.places.items c.index.result.now c.index.result.now
    (let k = c.len.ensures in let w = c.if-variable-len.true in omega arith) c.index.ensures (c.self.invariant.places c.args.variable)))
