-- Whether a symbol names the sort.
use Rattle.std.proofs.Common.{sym, ◌∙◌}
use Rattle.smt_sexpr.specs.Items.{tree_meant}
use Rattle.term_core.specs.Symbols.{sort_meant}
use Rattle.smt_sexpr.specs.Views.{word_view}
use Rattle.model_read.proofs.NamedSorts.{sort_is, sort_other, sort_fails}
use Rattle.model_read.proofs.sorts.want_sort.Goals as goal

pub returns-then-names_sort : goal.returns-then-names_sort
returns-then-names_sort c g m =
    let w = word_view c.in-Ok.word in
    let read = sym c.in-Ok.ensures in
    sort_is g (sort_meant c.args.table.now.sorts c.args.sort) (tree_meant c.args.text) w read (sym (c.names_sort.ensures g w m read) ∙ c.if-names_sort.true)

pub returns-else-names_sort : goal.returns-else-names_sort
returns-else-names_sort c g m =
    let w = word_view c.in-Ok.word in
    let read = sym c.in-Ok.ensures in
    sort_other g (sort_meant c.args.table.now.sorts c.args.sort) (tree_meant c.args.text) w c.fault_at.result read (sym (c.names_sort.ensures g w m read) ∙ c.if-names_sort.false) c.fault_at.ensures

pub returns-in-Err : goal.returns-in-Err
returns-in-Err c g m = sort_fails g (sort_meant c.args.table.now.sorts c.args.sort) (tree_meant c.args.text) _ (sym c.in-Err.ensures)
