-- The texts are read as a row, and after an error all is as it was.
use Rattle.std.proofs.Common.{subst}
use Rattle.spec_reading.specs.Reading.{readings}
use Rattle.smt_sexpr.specs.Items.{trees_meant}
use Rattle.term_reader.specs.Names.{setting_meant}
use Rattle.sort_check.specs.Bindings.{BindingsView, bound_at}
use Rattle.sort_check.specs.Reads.{store, HasFault}
use Rattle.sort_check.specs.Rows.{HasRow}
use Rattle.sort_check.proofs.Restored.{restored, same_grows}
use Rattle.sort_check.proofs.reads.terms_of_any_sort.Goals as goal

pub returns-clause-same : goal.returns-clause-same
returns-clause-same c =
    restored (store c.args.table.now c.args.scope.now) (store c.read.new.table c.read.new.scope) (store c.cut.new.self c.back.new.self) c.len-count.result c.sorts_len-sorts.result c.len-names.result c.in-Err.ensures.grows
    c.each_name_means_something.ensures.sorts c.each_name_means_something.ensures.functions c.len-count.ensures c.sorts_len-sorts.ensures c.len-names.ensures c.cut.ensures.terms c.cut.ensures.declared c.back.ensures

pub returns-clause-grows : goal.returns-clause-grows
returns-clause-grows c =
    same_grows (store c.args.table.now c.args.scope.now) (store c.cut.new.self c.back.new.self)
    (restored (store c.args.table.now c.args.scope.now) (store c.read.new.table c.read.new.scope) (store c.cut.new.self c.back.new.self) c.len-count.result c.sorts_len-sorts.result c.len-names.result c.in-Err.ensures.grows
    c.each_name_means_something.ensures.sorts c.each_name_means_something.ensures.functions c.len-count.ensures c.sorts_len-sorts.ensures c.len-names.ensures c.cut.ensures.terms c.cut.ensures.declared c.back.ensures)

pub returns-clause-ends : goal.returns-clause-ends
returns-clause-ends c =
    λ s h. subst (λ (b : BindingsView). HasFault (readings (setting_meant c.args.setting) s (bound_at c.args.table.now b) (trees_meant c.args.trees)) c.in-Err.stop) c.new.ensures (c.in-Err.ensures.ends s h)

pub returns-in-Ok-clause-ends : goal.returns-in-Ok-clause-ends
returns-in-Ok-clause-ends c =
    λ s h.
    let r = subst (λ (b : BindingsView). HasRow s (store c.read.new.table c.read.new.scope) (readings (setting_meant c.args.setting) s (bound_at c.args.table.now b) (trees_meant c.args.trees)) (c.in-Ok.ids.items, c.in-Ok.field-0-1.items)) c.new.ensures (c.in-Ok.ensures.ends s h) in
    record {
      readings = r.readings;
      read = r.read;
      there = r.terms.0;
      terms = r.terms.1;
      represents = r.represents;
    }
