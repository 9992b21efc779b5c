-- No name is made, so none goes.
use Rattle.std.proofs.Common.{◌∙◌}
use Rattle.smt_sexpr.specs.Items.{trees_meant}
use Rattle.term_reader.specs.Names.{setting_meant}
use Rattle.sort_check.specs.Reads.{store}
use Rattle.assertion_stack.proofs.Back.{scope_back}
use Rattle.smt_reply.proofs.ReadValues.{terms_end}
use Rattle.smt_reply.proofs.values.terms_read.Goals as goal

pub returns-clause-ends : goal.returns-clause-ends
returns-clause-ends c s h =
    let read = c.terms_of_any_sort-read in
    terms_end s (trees_meant c.args.trees) (setting_meant c.unasserted.result) (store read.new.table read.new.scope) read.result c.unasserted.ensures (read.ensures.ends s h)

pub returns-clause-keeps : goal.returns-clause-keeps
returns-clause-keeps c = c.terms_of_any_sort-read.ensures.grows.keeps

pub returns-clause-same : goal.returns-clause-same
returns-clause-same c =
    let v = c.args.scope.now in
    let long = c.each_name_means_something.ensures in
    c.back.ensures ∙ scope_back v c.sorts_len-sorts.result c.len-functions.result long.sorts long.functions c.sorts_len-sorts.ensures c.len-functions.ensures c.terms_of_any_sort-read.new.scope c.terms_of_any_sort-read.ensures.grows.widens
