-- A definition, where there is room.
use Rattle.std.proofs.Common.{ap, subst}
use Rattle.spec_sorts.specs.Signatures.{with_definitions}
use Rattle.term_reader.specs.Names.{setting_meant}
use Rattle.term_core.specs.Tables.{clause_at}
use Rattle.sort_check.specs.Rows.{EndsRoom}
use Rattle.sort_check.specs.Reads.{room_meant, parts_meant, within, store}
use Rattle.sort_check.proofs.Definitions.{definitions_fault, definition_ends}
use Rattle.sort_check.proofs.defining.read_definition.Goals as goal

pub returns-in-Err-clause-ends : goal.returns-in-Err-clause-ends
returns-in-Err-clause-ends c =
    λ s h. definitions_fault (room_meant c.args.room) (setting_meant c.args.setting) s (parts_meant c.args.parts) c.in-Err.stop (c.in-Err.ensures.ends s h)

pub returns-in-Ok-clause-ends : goal.returns-in-Ok-clause-ends
returns-in-Ok-clause-ends c =
    λ s h.
    let k = c.in-Ok.ensures.ends s h in
    let at = with_definitions s k.definitions in
    let room = room_meant c.args.room in
    definition_ends room (setting_meant c.args.setting) s (parts_meant c.args.parts) (store c.read_whole.new.table c.read_whole.new.scope) c.in-Ok.named.items k c.find_room.result
    (subst (λ us. EndsRoom (within room at us) c.find_room.result) (ap (clause_at c.read_whole.new.table) c.deref.ensures.value) (c.find_room.ensures at k.represents.count))
