-- A term that is read with room is the last assertion, after the names that it makes.
use Rattle.std.proofs.Common.{◌≡◌, true, Some, refl, sym, ap, ◌∙◌, subst}
use Rattle.spec_commands.specs.Stack.{did, begun, with_definitions, with_assertion, signature_of}
use Rattle.smt_sexpr.specs.Items.{tree_meant}
use Rattle.term_reader.specs.Names.{setting_meant}
use Rattle.sort_check.specs.Reads.{room_meant, store}
use Rattle.assertion_stack.specs.Stacks.{over_table, IsStack}
use Rattle.assertion_stack.proofs.Stacks.{assert_done, assert_fails, named, one_asserted}
use Rattle.assertion_stack.proofs.stack.Stack.assert.Goals as goal

pub returns-in-Ok-add_written-clause-performs : goal.returns-in-Ok-add_written-clause-performs
returns-in-Ok-add_written-clause-performs c limit s h =
    let r = c.in-Ok.ensures.ends (signature_of s) h.states.scope in
    let x = c.args.self.now in
    let t = c.term.new.table in
    let y = record x { scope = c.term.new.scope; started = true } in
    let named_stack = begun (with_definitions s r.reading.made) in
    let added = c.in-Ok-add_written.ensures.added in
    let tree = tree_meant c.args.tree in
    let room : room_meant c.room-room.result ≡ record { limit = Some limit; at = c.args.at } = ap room_meant c.room-room.ensures ∙ ap (λ l. record { limit = Some l; at = c.args.at }) h.limit_is in
    let next = begun (with_assertion (with_definitions s r.reading.made) tree r.reading.term) in (
      did next,
      assert_done limit c.args.at s tree (room_meant c.room-room.result) (setting_meant c.in_script.result) room c.in_script.ensures r.reading r.read,
      refl,
      subst (λ z. IsStack limit (over_table t z) next) (sym added)
          (one_asserted limit t y named_stack tree r.reading.term c.in-Ok.id (named limit c.args.table.now t x s c.term.new.scope r.reading.made h c.in-Ok.ensures.grows r.represents (record { each_sort = c.each_name_means_something.ensures.sorts; each_function = c.each_name_means_something.ensures.functions })) (record { each_sort = c.each_name_means_something-in-Ok.ensures.sorts; each_function = c.each_name_means_something-in-Ok.ensures.functions }) r.term),
    )

pub returns-in-Err-clause-performs : goal.returns-in-Err-clause-performs
returns-in-Err-clause-performs c limit s h =
    let room : room_meant c.room-room.result ≡ record { limit = Some limit; at = c.args.at } = ap room_meant c.room-room.ensures ∙ ap (λ l. record { limit = Some l; at = c.args.at }) h.limit_is in
    assert_fails limit c.args.at s (tree_meant c.args.tree) (room_meant c.room-room.result) (setting_meant c.in_script.result) room c.in_script.ensures (store c.term.new.table c.term.new.scope) c.in-Err.stop (c.in-Err.ensures.ends (signature_of s) h.states.scope)
