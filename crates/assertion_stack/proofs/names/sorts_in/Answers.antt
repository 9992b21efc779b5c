-- One sort more, or the end, or a fault.
use Rattle.std.proofs.Common.{◌∷◌, [], ap, ◌∙◌, subst, sym}
use Rattle.std.proofs.lemmas.List.{map-append}
use Rattle.std.proofs.lemmas.List.Elements.{All-push}
use Rattle.spec_reading.specs.Sorts.{sorts_in}
use Rattle.smt_sexpr.specs.Items.{trees_meant}
use Rattle.term_core.specs.Symbols.{HasSortIn, HaveSortsIn, sort_meant, sorts_meant}
use Rattle.term_reader.specs.Names.{located_of}
use Rattle.assertion_stack.proofs.SortLists.{with_front, sorts_end, sorts_more, sorts_fail}
use Rattle.assertion_stack.proofs.names.sorts_in.Goals as goal

pub returns-in-Err : goal.returns-in-Err
returns-in-Err c t s h = sorts_fail s (sorts_meant t.sorts c.trees.sorts.items) (trees_meant c.trees.rest) (sorts_in s (trees_meant c.args.trees)) (c.trees.invariant.gives t s h) _ (trees_meant c.in-Some.after) c.in-Some.ensures.first (located_of c.in-Err.fault) (c.in-Err.ensures t s h)

pub trees-preserved : goal.trees-preserved
trees-preserved c = record {
  there = λ t s h. subst (HaveSortsIn t.sorts) (sym c.in-Ok-push.ensures.items) (All-push (HasSortIn t.sorts) c.trees.sorts.items c.in-Ok.sort (c.trees.invariant.there t s h) (c.in-Ok.ensures t s h).0);
  gives = λ t s h.
      let one = ap (sorts_meant t.sorts) c.in-Ok-push.ensures.items ∙ map-append (sort_meant t.sorts) c.trees.sorts.items (c.in-Ok.sort ∷ []) in
      ap (λ xs. with_front xs (sorts_in s (trees_meant c.in-Some.after))) one
      ∙ sorts_more s (sorts_meant t.sorts c.trees.sorts.items) (trees_meant c.trees.rest) (sorts_in s (trees_meant c.args.trees)) (c.trees.invariant.gives t s h) _ (trees_meant c.in-Some.after) c.in-Some.ensures.first (sort_meant t.sorts c.in-Ok.sort) (c.in-Ok.ensures t s h).1;
}

pub returns : goal.returns
returns c t s h = (
  c.trees.invariant.there t s h,
  sorts_end s (sorts_meant t.sorts c.trees.sorts.items) (trees_meant c.trees.rest) (sorts_in s (trees_meant c.args.trees)) (c.trees.invariant.gives t s h) (rw c.in_default.is at c.split.ensures.first),
)
