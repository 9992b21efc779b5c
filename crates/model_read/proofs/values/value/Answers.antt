-- A value by its form, and by what fits.
use Rattle.std.proofs.Common.{ℕ, sym, ap, ◌∙◌}
use Rattle.smt_sexpr.specs.Items.{tree_meant}
use Rattle.term_core.specs.Symbols.{sort_meant}
use Rattle.model_read.specs.Values.{fitted}
use Rattle.model_read.proofs.WrittenValues.{value_by, value_stops}
use Rattle.model_read.proofs.values.value.Goals as goal

pub returns-in-Ok-fit-clause-reads : goal.returns-in-Ok-fit-clause-reads
returns-in-Ok-fit-clause-reads c g m =
    let s = sort_meant c.args.table.now.sorts c.args.sort in
    let r = c.in-Ok.ensures in
    value_by g s (tree_meant c.args.text) r.value r.is ∙ ap (λ (n : ℕ). fitted g s n r.value) (sym c.offset.ensures) ∙ sym (c.in-Ok-fit.ensures.fits g r.value m r.means)

pub returns-in-Err-fit-clause-reads : goal.returns-in-Err-fit-clause-reads
returns-in-Err-fit-clause-reads c g m =
    let s = sort_meant c.args.table.now.sorts c.args.sort in
    let r = c.in-Ok.ensures in
    value_by g s (tree_meant c.args.text) r.value r.is ∙ ap (λ (n : ℕ). fitted g s n r.value) (sym c.offset.ensures) ∙ sym (c.in-Err-fit.ensures.fits g r.value m r.means)

pub returns-in-Err-clause-reads : goal.returns-in-Err-clause-reads
returns-in-Err-clause-reads c g m = value_stops g (sort_meant c.args.table.now.sorts c.args.sort) (tree_meant c.args.text) c.in-Err.error c.in-Err.ensures
