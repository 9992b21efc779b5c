-- An element of its sort, within the bounds or beyond, or of another.
use Rattle.std.proofs.Common.{sym, ◌∙◌}
use Rattle.term_core.specs.Symbols.{sort_name}
use Rattle.model_read.proofs.WrittenValues.{element_fits, element_wide, element_other}
use Rattle.model_read.proofs.values.fit_declared.Goals as goal

pub returns-then-not-names_sort-clause-fits : goal.returns-then-not-names_sort-clause-fits
returns-then-not-names_sort-clause-fits c g w m h =
    element_other g (sort_name c.args.table.now.sorts c.args.sort) c.args.at c.args.number c.args.name w h c.fault_at.result (sym (c.names_sort.ensures g h.name m h.named) ∙ c.if-not-names_sort.true) c.fault_at.ensures

pub returns-in-Some-clause-fits : goal.returns-in-Some-clause-fits
returns-in-Some-clause-fits c g w m h =
    element_fits g (sort_name c.args.table.now.sorts c.args.sort) c.args.at c.args.number c.args.name w h c.in-Some.k c.in-Some.is (sym (c.names_sort.ensures g h.name m h.named) ∙ c.if-not-names_sort.false)

pub returns-in-None-clause-fits : goal.returns-in-None-clause-fits
returns-in-None-clause-fits c g w m h =
    element_wide g (sort_name c.args.table.now.sorts c.args.sort) c.args.at c.args.number c.args.name w h c.fault_at-in-None.result c.in-None.is (sym (c.names_sort.ensures g h.name m h.named) ∙ c.if-not-names_sort.false)
    c.fault_at-in-None.ensures
