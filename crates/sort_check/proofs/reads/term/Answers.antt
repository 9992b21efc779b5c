-- After an error all is as it was.
use Rattle.sort_check.specs.Reads.{store}
use Rattle.sort_check.proofs.Restored.{restored, same_grows}
use Rattle.sort_check.proofs.reads.term.Goals as goal

pub returns-in-Err-clause-same : goal.returns-in-Err-clause-same
returns-in-Err-clause-same c =
    restored (store c.args.table.now c.args.scope.now) (store c.read_fitting.new.table c.read_fitting.new.scope) (store c.cut.new.self c.back.new.self) c.len-count.result c.sorts_len-sorts.result c.len-names.result c.in-Err.ensures.grows
    c.each_name_means_something.ensures.sorts c.each_name_means_something.ensures.functions c.len-count.ensures c.sorts_len-sorts.ensures c.len-names.ensures c.cut.ensures.terms c.cut.ensures.declared c.back.ensures

pub returns-in-Err-clause-grows : goal.returns-in-Err-clause-grows
returns-in-Err-clause-grows c =
    same_grows (store c.args.table.now c.args.scope.now) (store c.cut.new.self c.back.new.self)
    (restored (store c.args.table.now c.args.scope.now) (store c.read_fitting.new.table c.read_fitting.new.scope) (store c.cut.new.self c.back.new.self) c.len-count.result c.sorts_len-sorts.result c.len-names.result c.in-Err.ensures.grows
    c.each_name_means_something.ensures.sorts c.each_name_means_something.ensures.functions c.len-count.ensures c.sorts_len-sorts.ensures c.len-names.ensures c.cut.ensures.terms c.cut.ensures.declared c.back.ensures)
