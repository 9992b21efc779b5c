-- The name of a sort more, where it is new and there is room for it.
use Rattle.std.proofs.Common.{◌≡◌, ◌+◌, false, true, None, length, refl, sym, ap, ◌∙◌, subst}
use Rattle.std.specs.Prelude.{nat_lt, Ok}
use Rattle.spec_sorts.specs.Signatures.{of_sort, sort_as}
use Rattle.spec_reading.specs.Names.{script, new_name, is_sort}
use Rattle.spec_reading.proofs.Sound.{not_taken}
use Rattle.spec_commands.specs.Stack.{did, begun, with_declaration, signature_of}
use Rattle.smt_sexpr.specs.Items.{tree_meant}
use Rattle.smt_sexpr.specs.Views.{word_view}
use Rattle.term_core.specs.Symbols.{sort_meant}
use Rattle.term_reader.specs.Names.{located_of}
use Rattle.assertion_stack.specs.Stacks.{over_table, IsStack}
use Rattle.assertion_stack.proofs.Known.{unknown_sort}
use Rattle.assertion_stack.proofs.Stacks.{alias_refused, alias_not_sorted, alias_defined, no_room, has_place}
use Rattle.assertion_stack.proofs.Declared.{alias_stack}
use Rattle.assertion_stack.proofs.stack.Stack.name_sort.Goals as goal

pub returns-in-Err-clause-performs : goal.returns-in-Err-clause-performs
returns-in-Err-clause-performs c limit s h = alias_refused limit c.args.at s (word_view c.args.word) (tree_meant c.args.sort) (located_of c.in-Err.fault) (sym (c.in-Err.ensures c.args.table.now (signature_of s) h.states.scope))

pub returns-in-Err-sort_in-clause-performs : goal.returns-in-Err-sort_in-clause-performs
returns-in-Err-sort_in-clause-performs c limit s h =
    let t = c.args.table.now in
    alias_not_sorted limit c.args.at s (word_view c.args.word) (tree_meant c.args.sort) c.in-Ok.name.now (located_of c.in-Err-sort_in.fault) (sym (c.in-Ok.ensures t (signature_of s) h.states.scope)) (c.in-Err-sort_in.ensures t (signature_of s) h.states.scope)

pub returns-then-not-has_room-clause-performs : goal.returns-then-not-has_room-clause-performs
returns-then-not-has_room-clause-performs c limit s h =
    let t = c.args.table.now in
    let v = c.args.self.now.scope in
    let n = length v.sort_names + length v.names in
    let name = c.in-Ok.name.now in
    let sort = c.in-Ok-sort_in.ensures t (signature_of s) h.states.scope in
    let full : nat_lt n limit ≡ false = ap (nat_lt n) (sym h.limit_is) ∙ sym c.if-not-has_room.ensures in
    rw c.refused.ensures (alias_defined limit c.args.at s (word_view c.args.word) (tree_meant c.args.sort) name _ (sym (c.in-Ok.ensures t (signature_of s) h.states.scope)) sort.1 ∙ no_room limit c.args.at s (of_sort name _) n h.states.scope.count full)

pub returns-in-Ok-add_name-clause-performs : goal.returns-in-Ok-add_name-clause-performs
returns-in-Ok-add_name-clause-performs c limit s h =
    let t = c.args.table.now in
    let x = c.args.self.now in
    let n = length x.scope.sort_names + length x.scope.names in
    let name = c.in-Ok.name.now in
    let y = c.in-Ok-sort_in.sort in
    let sort = c.in-Ok-sort_in.ensures t (signature_of s) h.states.scope in
    let r = sort_meant t.sorts y in
    let named : new_name script (is_sort (signature_of s)) (word_view c.args.word) ≡ Ok name = sym (c.in-Ok.ensures t (signature_of s) h.states.scope) in
    let free : sort_as (signature_of s) name ≡ None = unknown_sort (signature_of s) name (not_taken script (is_sort (signature_of s)) (word_view c.args.word) name named) in
    let fits : nat_lt n limit ≡ true = ap (nat_lt n) (sym h.limit_is) ∙ sym c.if-not-has_room.ensures in
    let next = begun (with_declaration s (of_sort name r)) in (
      did next,
      alias_defined limit c.args.at s (word_view c.args.word) (tree_meant c.args.sort) name r named sort.1 ∙ has_place limit c.args.at s (of_sort name r) n h.states.scope.count fits,
      refl,
      subst (λ z. IsStack limit (over_table t z) next) (sym c.in-Ok-add_name.ensures.added) (alias_stack limit t x s h (record { each_sort = c.each_name_means_something.ensures.sorts; each_function = c.each_name_means_something.ensures.functions }) name y r free sort.0 refl),
    )
