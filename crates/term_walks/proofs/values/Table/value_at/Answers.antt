-- One row after the other does not fit, or the row fits.
use Rattle.std.proofs.Common.{sym, ◌∙◌}
use Rattle.term_walks.specs.Valuations.{value_meant, values_meant}
use Rattle.term_walks.proofs.Fitting.{fit_more, row_named}
use Rattle.term_walks.proofs.values.Table.value_at.Goals as goal

pub returns-then-fits-clause-exact : goal.returns-then-fits-clause-exact
returns-then-fits-clause-exact c sorts apart rows named =
    let items = c.deref-row-items.result.now in
    let row = row_named sorts c.args.self.now.rows.items items c.rows.row-index c.row-item.result c.deref-row-items.ensures.value c.rows-test.true c.row-item.is rows in
    sym (fit_more sorts items c.rows.row-index c.row-item.result _ (value_meant sorts c.args.self.now.default) (values_meant sorts c.args.arguments.now) c.rows-test.true c.row-item.is
    (rw c.if-fits.true at c.fits.ensures sorts apart row.arguments named))
    ∙ c.rows.invariant.same sorts apart rows named

pub rows-preserved : goal.rows-preserved
rows-preserved c = record {
  same = λ sorts apart rows named.
      let items = c.deref-row-items.result.now in
      let row = row_named sorts c.args.self.now.rows.items items c.rows.row-index c.row-item.result c.deref-row-items.ensures.value c.rows-test.true c.row-item.is rows in
      sym (fit_more sorts items c.rows.row-index c.row-item.result _ (value_meant sorts c.args.self.now.default) (values_meant sorts c.args.arguments.now) c.rows-test.true c.row-item.is
      (rw c.if-fits.false at c.fits.ensures sorts apart row.arguments named))
      ∙ c.rows.invariant.same sorts apart rows named;
}
