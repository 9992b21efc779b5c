-- A sort more, where its name is new and there is room for it.
use Rattle.std.proofs.Common.{◌≡◌, ◌+◌, false, true, None, length, refl, sym, ap, ◌∙◌, subst}
use Rattle.std.specs.Prelude.{nat_lt, Ok}
use Rattle.spec_sorts.specs.Terms.{Declared}
use Rattle.spec_sorts.specs.Signatures.{of_sort, sort_as}
use Rattle.spec_reading.specs.Names.{script, new_name, is_sort}
use Rattle.spec_reading.proofs.Sound.{not_taken}
use Rattle.spec_commands.specs.Stack.{did, begun, with_declaration, signature_of}
use Rattle.smt_sexpr.specs.Views.{word_view}
use Rattle.term_core.specs.Tables.{Extends}
use Rattle.term_reader.specs.Names.{located_of}
use Rattle.assertion_stack.specs.Stacks.{over_table, IsStack}
use Rattle.assertion_stack.proofs.Known.{unknown_sort}
use Rattle.assertion_stack.proofs.Stacks.{sort_name_refused, sort_declared, no_room, has_place}
use Rattle.assertion_stack.proofs.Declared.{sort_grows, declared_stack}
use Rattle.assertion_stack.proofs.stack.Stack.declare_sort.Goals as goal

pub returns-in-Err-clause-performs : goal.returns-in-Err-clause-performs
returns-in-Err-clause-performs c limit s h = sort_name_refused limit c.args.at s (word_view c.args.word) (located_of c.in-Err.fault) (sym (c.in-Err.ensures c.args.table.now (signature_of s) h.states.scope))

pub returns-then-not-has_room-clause-performs : goal.returns-then-not-has_room-clause-performs
returns-then-not-has_room-clause-performs c limit s h =
    let v = c.args.self.now.scope in
    let n = length v.sort_names + length v.names in
    let name = c.in-Ok.name.now in
    let full : nat_lt n limit ≡ false = ap (nat_lt n) (sym h.limit_is) ∙ sym c.if-not-has_room.ensures in
    rw c.refused.ensures (sort_declared limit c.args.at s (word_view c.args.word) name (sym (c.in-Ok.ensures c.args.table.now (signature_of s) h.states.scope)) ∙ no_room limit c.args.at s (of_sort name (Declared name)) n h.states.scope.count full)

pub add_sort-requires : goal.add_sort-requires
add_sort-requires c =
    let r = c.requires in
    let s = r.1 in
    let h = r.2 in
    h.states.sorts c.in-Ok.name.now (unknown_sort (signature_of s) c.in-Ok.name.now (not_taken script (is_sort (signature_of s)) (word_view c.args.word) c.in-Ok.name.now (sym (c.in-Ok.ensures c.args.table.now (signature_of s) h.states.scope))))

pub returns-in-Ok-add_sort-clause-performs : goal.returns-in-Ok-add_sort-clause-performs
returns-in-Ok-add_sort-clause-performs c limit s h =
    let t = c.args.table.now in
    let x = c.args.self.now in
    let n = length x.scope.sort_names + length x.scope.names in
    let name = c.in-Ok.name.now in
    let named : new_name script (is_sort (signature_of s)) (word_view c.args.word) ≡ Ok name = sym (c.in-Ok.ensures t (signature_of s) h.states.scope) in
    let free : sort_as (signature_of s) name ≡ None = unknown_sort (signature_of s) name (not_taken script (is_sort (signature_of s)) (word_view c.args.word) name named) in
    let fits : nat_lt n limit ≡ true = ap (nat_lt n) (sym h.limit_is) ∙ sym c.if-not-has_room.ensures in
    let next = begun (with_declaration s (of_sort name (Declared name))) in (
      did next,
      sort_declared limit c.args.at s (word_view c.args.word) name named ∙ has_place limit c.args.at s (of_sort name (Declared name)) n h.states.scope.count fits,
      refl,
      subst (λ y. IsStack limit y next) (λ i. over_table (sym c.in-Ok-add_sort.ensures.declared i) (sym c.in-Ok-add_sort.ensures.named i)) (declared_stack limit t x s h (record { each_sort = c.each_name_means_something.ensures.sorts; each_function = c.each_name_means_something.ensures.functions }) name free),
    )

pub returns-in-Ok-add_sort-clause-kept : goal.returns-in-Ok-add_sort-clause-kept
returns-in-Ok-add_sort-clause-kept c = let t = c.args.table.now in subst (Extends t) (sym c.in-Ok-add_sort.ensures.declared) (sort_grows t c.in-Ok.name.now)
