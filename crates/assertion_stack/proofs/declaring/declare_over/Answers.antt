-- A symbol more, where there is room for its name.
use Rattle.std.proofs.Common.{◌≡◌, ◌+◌, false, true, length, refl, sym, ap, ◌∙◌, subst}
use Rattle.std.specs.Prelude.{nat_lt}
use Rattle.spec_sorts.specs.Signatures.{of_function, declared}
use Rattle.spec_commands.specs.Stack.{did, begun, with_declaration, signature_of}
use Rattle.term_core.specs.Symbols.{symbol_named, symbol_of}
use Rattle.term_core.specs.Tables.{Extends}
use Rattle.assertion_stack.specs.Stacks.{over_table, IsStack}
use Rattle.assertion_stack.proofs.Naming.{no_symbol_named}
use Rattle.assertion_stack.proofs.Stacks.{no_room, has_place}
use Rattle.assertion_stack.proofs.Declared.{symbol_grows, symbol_stack}
use Rattle.assertion_stack.proofs.declaring.declare_over.Goals as goal

pub returns-then-not-has_room-clause-performs : goal.returns-then-not-has_room-clause-performs
returns-then-not-has_room-clause-performs c limit s h free =
    let v = c.args.stack.now.scope in
    let n = length v.sort_names + length v.names in
    let full : nat_lt n limit ≡ false = ap (nat_lt n) (sym h.limit_is) ∙ sym c.if-not-has_room.ensures in
    rw c.refused.ensures (no_room limit c.args.at s (of_function (declared (symbol_of c.args.table.now.sorts c.args.name.now c.args.parameters.now c.args.gives))) n h.states.scope.count full)

pub add_symbol-requires-clause-new : goal.add_symbol-requires-clause-new
add_symbol-requires-clause-new c = let r = c.requires.new in ap (λ fs. symbol_named fs c.args.name.now) r.2.states.symbols ∙ no_symbol_named (signature_of r.1) c.args.name.now r.3

pub returns-in-Ok-clause-performs : goal.returns-in-Ok-clause-performs
returns-in-Ok-clause-performs c limit s h free =
    let t = c.args.table.now in
    let x = c.args.stack.now in
    let f = symbol_of t.sorts c.args.name.now c.args.parameters.now c.args.gives in
    let n = length x.scope.sort_names + length x.scope.names in
    let fits : nat_lt n limit ≡ true = ap (nat_lt n) (sym h.limit_is) ∙ sym c.if-not-has_room.ensures in
    let next = begun (with_declaration s (of_function (declared f))) in (
      did next,
      has_place limit c.args.at s (of_function (declared f)) n h.states.scope.count fits,
      refl,
      subst (λ y. IsStack limit y next) (λ i. over_table (sym c.in-Ok.ensures.declared i) (sym c.in-Ok.ensures.named i)) (symbol_stack limit t x s h (record { each_sort = c.each_name_means_something.ensures.sorts; each_function = c.each_name_means_something.ensures.functions }) f free),
    )

pub returns-in-Ok-clause-kept : goal.returns-in-Ok-clause-kept
returns-in-Ok-clause-kept c =
    let t = c.args.table.now in
    subst (Extends t) (sym c.in-Ok.ensures.declared) (symbol_grows t (symbol_of t.sorts c.args.name.now c.args.parameters.now c.args.gives))
