-- A parameter by its name and its sort.
use Rattle.std.proofs.Common.{sym, ◌∙◌}
use Rattle.smt_sexpr.specs.Items.{tree_meant}
use Rattle.smt_sexpr.specs.Views.{word_view}
use Rattle.term_core.specs.Symbols.{sort_meant}
use Rattle.model_read.proofs.ParameterTexts.{parameter_is, parameter_no_sort, parameter_twice, parameter_no_word}
use Rattle.model_read.proofs.parameters.parameter_by.Goals as goal

pub returns-then-has_name-clause-reads : goal.returns-then-has_name-clause-reads
returns-then-has_name-clause-reads c g m =
    sym (parameter_twice g c.args.names.now (sort_meant c.args.table.now.sorts c.args.sort) (tree_meant c.args.text) (tree_meant c.args.sort_text) (word_view c.in-Ok.word) c.fault_at.result
    (sym c.in-Ok.ensures) (sym c.has_name.ensures ∙ c.if-has_name.true) c.fault_at.ensures)

pub returns-in-Ok-want_sort-clause-reads : goal.returns-in-Ok-want_sort-clause-reads
returns-in-Ok-want_sort-clause-reads c g m =
    sym (parameter_is g c.args.names.now (sort_meant c.args.table.now.sorts c.args.sort) (tree_meant c.args.text) (tree_meant c.args.sort_text) (word_view c.in-Ok.word)
    (sym c.in-Ok.ensures) (sym c.has_name.ensures ∙ c.if-has_name.false) (sym (c.in-Ok-want_sort.ensures g m)))

pub returns-in-Err-want_sort-clause-reads : goal.returns-in-Err-want_sort-clause-reads
returns-in-Err-want_sort-clause-reads c g m =
    sym (parameter_no_sort g c.args.names.now (sort_meant c.args.table.now.sorts c.args.sort) (tree_meant c.args.text) (tree_meant c.args.sort_text) (word_view c.in-Ok.word) _
    (sym c.in-Ok.ensures) (sym c.has_name.ensures ∙ c.if-has_name.false) (sym (c.in-Err-want_sort.ensures g m)))

pub returns-in-Err-clause-reads : goal.returns-in-Err-clause-reads
returns-in-Err-clause-reads c g m =
    sym (parameter_no_word g c.args.names.now (sort_meant c.args.table.now.sorts c.args.sort) (tree_meant c.args.text) (tree_meant c.args.sort_text) _ (sym c.in-Err.ensures))
