-- A symbol that is a proposition, and then what is read with it.
use Rattle.std.proofs.Common.{◌∙◌}
use Rattle.smt_sexpr.specs.Items.{tree_meant}
use Rattle.term_reader.specs.Names.{setting_meant}
use Rattle.term_reader.proofs.Tables.{keeps_same}
use Rattle.sort_check.specs.Reads.{store}
use Rattle.assertion_stack.proofs.Back.{scope_back}
use Rattle.assertion_stack.proofs.ReadLiterals.{symbol_fails, literal_ends}
use Rattle.assertion_stack.proofs.literals.literal.Goals as goal

pub returns-in-Err-clause-ends : goal.returns-in-Err-clause-ends
returns-in-Err-clause-ends c s h = symbol_fails s (tree_meant c.args.tree) c.in-Err.stop (c.in-Err.ensures s h)

pub returns-in-Err-clause-keeps : goal.returns-in-Err-clause-keeps
returns-in-Err-clause-keeps c = keeps_same c.args.table.now

pub returns-clause-ends : goal.returns-clause-ends
returns-clause-ends c s h =
    let k = c.in_default.ensures s h in
    literal_ends s (tree_meant c.args.tree) k.0 k.1 (setting_meant c.in_script.result) c.in_script.ensures 0 (store c.term-read.new.table c.term-read.new.scope) c.term-read.result (c.term-read.ensures.ends s h)

pub returns-clause-keeps : goal.returns-clause-keeps
returns-clause-keeps c = c.term-read.ensures.grows.keeps

pub returns-clause-same : goal.returns-clause-same
returns-clause-same c =
    let v = c.args.scope.now in
    let long = c.each_name_means_something.ensures in
    c.back.ensures ∙ scope_back v c.sorts_len-sorts.result c.len-functions.result long.sorts long.functions c.sorts_len-sorts.ensures c.len-functions.ensures c.term-read.new.scope c.term-read.ensures.grows.widens
