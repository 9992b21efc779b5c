-- A `distinct` that cannot fit.
use Rattle.std.proofs.Common.{◌≡◌, sym, subst}
use Rattle.spec_text.specs.declared.Fault.TheVariants.{Full}
use Rattle.spec_text.specs.Answers.{refused}
use Rattle.smt_sexpr.specs.Items.{trees_meant, tree_meant}
use Rattle.term_core.specs.Symbols.{sort_meant}
use Rattle.term_reader.specs.Names.{setting_meant}
use Rattle.sort_check.specs.Reads.{room_meant, roomy_reading, store}
use Rattle.sort_check.proofs.Restored.{restored}
use Rattle.sort_check.proofs.Refused.{refused_distinct}
use Rattle.sort_check.proofs.distinct.cannot_fit.Goals as goal

pub returns-clause-full : goal.returns-clause-full
returns-clause-full c =
    let room = room_meant c.args.room in
    let w = setting_meant c.args.setting in
    let t = tree_meant c.args.tree in
    let x = c.in-Some.ensures in
    λ yes s h.
    subst (λ k. roomy_reading room w s (sort_meant c.args.table.now.sorts k) t ≡ refused c.args.room.at Full) (sym x.1)
    (refused_distinct room c.in-Some.limit w s t (trees_meant c.in-Some.arguments) x.0 x.2 (c.are_read_as_too_many-is_full.ensures.many yes s h))

pub returns-clause-same : goal.returns-clause-same
returns-clause-same c =
    restored (store c.args.table.now c.args.scope.now) (store c.are_read_as_too_many-is_full.new.table c.are_read_as_too_many-is_full.new.scope) (store c.cut.new.self c.back.new.self) c.len-count.result c.sorts_len-sorts.result c.len-names.result c.are_read_as_too_many-is_full.ensures.grows
    c.each_name_means_something.ensures.sorts c.each_name_means_something.ensures.functions c.len-count.ensures c.sorts_len-sorts.ensures c.len-names.ensures c.cut.ensures.terms c.cut.ensures.declared c.back.ensures
