-- That the sort is the one that the name stands for.
use Rattle.std.proofs.Common.{sym, ap, ◌∙◌}
use Rattle.spec_model_files.specs.Values.{is_this_sort}
use Rattle.smt_sexpr.specs.Items.{tree_meant}
use Rattle.term_core.specs.Symbols.{sort_meant}
use Rattle.model_read.proofs.NamedSorts.{symbol_sort}
use Rattle.model_read.proofs.sorts.names_sort.Goals as goal

pub are_one-requires-clause-second : goal.are_one-requires-clause-second
are_one-requires-clause-second c = (c.in-Ok.ensures c.args.table.now c.requires.known.0 c.requires.known.1).0

pub returns-in-Ok : goal.returns-in-Ok
returns-in-Ok c g w m e =
    let h = c.in-Ok.ensures c.args.table.now g m in
    c.are_one.ensures ∙ sym (ap (is_this_sort (sort_meant c.args.table.now.sorts c.args.sort)) (sym (symbol_sort g (tree_meant c.args.text) w e) ∙ h.1))

pub returns-in-Err : goal.returns-in-Err
returns-in-Err c g w m e = sym (ap (is_this_sort (sort_meant c.args.table.now.sorts c.args.sort)) (sym (symbol_sort g (tree_meant c.args.text) w e) ∙ c.in-Err.ensures c.args.table.now g m))
