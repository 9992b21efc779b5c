-- Definitions that are read with room are the last names.
use Rattle.std.proofs.Common.{◌≡◌, Some, refl, ap, ◌∙◌}
use Rattle.spec_commands.specs.Stack.{did, begun, with_definitions, signature_of}
use Rattle.smt_command.specs.Commands.{parts_view}
use Rattle.term_reader.specs.Names.{setting_meant}
use Rattle.sort_check.specs.Reads.{room_meant, store}
use Rattle.assertion_stack.proofs.Stacks.{define_done, define_fails, named}
use Rattle.assertion_stack.proofs.stack.Stack.define.Goals as goal

pub returns-in-Ok-clause-performs : goal.returns-in-Ok-clause-performs
returns-in-Ok-clause-performs c limit s h =
    let r = c.in-Ok.ensures.ends (signature_of s) h.states.scope in
    let x = c.args.self.now in
    let room : room_meant c.room-room.result ≡ record { limit = Some limit; at = c.args.at } = ap room_meant c.room-room.ensures ∙ ap (λ l. record { limit = Some l; at = c.args.at }) h.limit_is in
    let t = c.define.new.table in (
      did (begun (with_definitions s r.definitions)),
      define_done limit c.args.at s (parts_view c.args.parts) (room_meant c.room-room.result) (setting_meant c.in_script.result) room c.in_script.ensures r.definitions r.read,
      refl,
      named limit c.args.table.now t x s c.define.new.scope r.definitions h c.in-Ok.ensures.grows r.represents (record { each_sort = c.each_name_means_something.ensures.sorts; each_function = c.each_name_means_something.ensures.functions }),
    )

pub returns-in-Err-clause-performs : goal.returns-in-Err-clause-performs
returns-in-Err-clause-performs c limit s h =
    let room : room_meant c.room-room.result ≡ record { limit = Some limit; at = c.args.at } = ap room_meant c.room-room.ensures ∙ ap (λ l. record { limit = Some l; at = c.args.at }) h.limit_is in
    define_fails limit c.args.at s (parts_view c.args.parts) (room_meant c.room-room.result) (setting_meant c.in_script.result) room c.in_script.ensures (store c.define.new.table c.define.new.scope) c.in-Err.stop (c.in-Err.ensures.ends (signature_of s) h.states.scope)
