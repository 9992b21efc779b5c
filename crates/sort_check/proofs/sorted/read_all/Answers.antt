-- Texts of a sort, one after the other.
use Rattle.std.proofs.Common.{[], sym, ap, subst}
use Rattle.spec_sorts.specs.Signatures.{with_definitions}
use Rattle.spec_reading.specs.Reading.{reading_of_sort}
use Rattle.smt_sexpr.specs.Items.{trees_meant, tree_meant}
use Rattle.smt_sexpr.proofs.Splitting.{split_end, split_more}
use Rattle.term_core.specs.Symbols.{sort_meant}
use Rattle.term_reader.specs.Names.{setting_meant}
use Rattle.sort_check.specs.Bindings.{BindingsView, bound_at}
use Rattle.sort_check.specs.Reads.{store, HasFault}
use Rattle.sort_check.specs.Rows.{HasOne}
use Rattle.sort_check.proofs.Widening.{grows_same, grows_along}
use Rattle.sort_check.proofs.AllRead.{IsAll, all_begin, known, all_stop, all_go, all_end}
use Rattle.sort_check.proofs.sorted.read_all.Goals as goal

pub trees-init : goal.trees-init
trees-init c =
    let w = setting_meant c.args.setting in
    let sort = sort_meant c.args.table.now.sorts c.args.sort in
    let all = trees_meant c.args.trees in
    let now = store c.args.table.now c.args.scope.now in (
      c.requires.known,
      grows_same _,
      λ s h. subst (IsAll w s sort (all, all) now) (sym c.new-ids.ensures.items) (all_begin w s sort all now h),
    )

pub returns-in-Err-clause-ends : goal.returns-in-Err-clause-ends
returns-in-Err-clause-ends c =
    let w = setting_meant c.args.setting in
    let sort = sort_meant c.args.table.now.sorts c.args.sort in
    let all = trees_meant c.args.trees in
    let t = tree_meant c.in-Some.first in
    let now = store c.trees.table c.trees.scope in
    let is = split_more (trees_meant c.trees.rest) (trees_meant c.in-Some.after) t c.in-Some.ensures.first in
    let sorts = ap (λ d. d.sorts) c.trees.invariant.1.keeps.declared in
    λ s h.
    let k = c.trees.invariant.2 s h in
    let at = known w s sort all (trees_meant c.trees.rest) (trees_meant c.in-Some.after) t now c.trees.ids.items is k in
    all_stop w s sort all (trees_meant c.trees.rest) (trees_meant c.in-Some.after) t now c.trees.ids.items is k c.in-Err.stop
    (subst (λ ss. HasFault (reading_of_sort w at [] (sort_meant ss c.args.sort) t) c.in-Err.stop) sorts
    (subst (λ (b : BindingsView). HasFault (reading_of_sort w at (bound_at c.trees.table b) (sort_meant c.trees.table.sorts c.args.sort) t) c.in-Err.stop) c.new.ensures (c.in-Err.ensures.ends at k.represents)))

pub trees-preserved : goal.trees-preserved
trees-preserved c =
    let w = setting_meant c.args.setting in
    let sort = sort_meant c.args.table.now.sorts c.args.sort in
    let all = trees_meant c.args.trees in
    let t = tree_meant c.in-Some.first in
    let now = store c.trees.table c.trees.scope in
    let new = store c.read_of_sort.new.table c.read_of_sort.new.scope in
    let is = split_more (trees_meant c.trees.rest) (trees_meant c.in-Some.after) t c.in-Some.ensures.first in
    let sorts = ap (λ d. d.sorts) c.trees.invariant.1.keeps.declared in
    let e = c.trees.invariant.0 in
    let one = c.in-Ok.ensures.ends e.0 e.1 in (
      (with_definitions e.0 one.reading.made, one.represents),
      grows_along _ _ _ c.trees.invariant.1 c.in-Ok.ensures.grows,
      λ s h.
          let k = c.trees.invariant.2 s h in
          let at = known w s sort all (trees_meant c.trees.rest) (trees_meant c.in-Some.after) t now c.trees.ids.items is k in
          let read = subst (λ ss. HasOne at new (reading_of_sort w at [] (sort_meant ss c.args.sort) t) (c.in-Ok.id, c.in-Ok.field-0-1.items)) sorts
          (subst (λ (b : BindingsView). HasOne at new (reading_of_sort w at (bound_at c.trees.table b) (sort_meant c.trees.table.sorts c.args.sort) t) (c.in-Ok.id, c.in-Ok.field-0-1.items)) c.new.ensures (c.in-Ok.ensures.ends at k.represents)) in
          subst (IsAll w s sort (all, trees_meant c.in-Some.after) new) (sym c.in_default-push.ensures.items)
          (all_go w s sort all (trees_meant c.trees.rest) (trees_meant c.in-Some.after) t now c.trees.ids.items is k new c.in-Ok.id c.in-Ok.field-0-1.items c.in-Ok.ensures.grows.keeps read),
    )

pub returns-clause-ends : goal.returns-clause-ends
returns-clause-ends c =
    let w = setting_meant c.args.setting in
    let sort = sort_meant c.args.table.now.sorts c.args.sort in
    λ s h.
    all_end w s sort (trees_meant c.args.trees) (trees_meant c.trees.rest) (store c.trees.table c.trees.scope) c.trees.ids.items (split_end (trees_meant c.trees.rest) c.in_default.ensures.first) (c.trees.invariant.2 s h)
