-- A text of a sort, where there is room.
use Rattle.std.proofs.Common.{[], ◌∷◌, sym, ap, ◌∙◌, subst}
use Rattle.spec_sorts.specs.Signatures.{with_definitions}
use Rattle.spec_reading.specs.Reading.{reading_of_sort}
use Rattle.smt_sexpr.specs.Items.{tree_meant}
use Rattle.term_core.specs.Symbols.{sort_meant}
use Rattle.term_reader.specs.Names.{setting_meant}
use Rattle.sort_check.specs.Bindings.{BindingsView, bound_at}
use Rattle.sort_check.specs.Reads.{room_meant, within, store, HasFault}
use Rattle.sort_check.specs.Rows.{HasOne}
use Rattle.sort_check.proofs.Rooms.{reading_fault, reading_room_fault, reading_room}
use Rattle.sort_check.proofs.sorted.read_term.Goals as goal

pub returns-in-Err-clause-ends : goal.returns-in-Err-clause-ends
returns-in-Err-clause-ends c =
    let w = setting_meant c.args.setting in
    let sort = sort_meant c.args.table.now.sorts c.args.sort in
    let t = tree_meant c.args.tree in
    λ s h. reading_fault (room_meant c.args.room) w s sort t c.in-Err.stop
    (subst (λ (b : BindingsView). HasFault (reading_of_sort w s (bound_at c.args.table.now b) sort t) c.in-Err.stop) c.new.ensures (c.in-Err.ensures.ends s h))

pub returns-in-Err-find_room-clause-ends : goal.returns-in-Err-find_room-clause-ends
returns-in-Err-find_room-clause-ends c =
    let w = setting_meant c.args.setting in
    let sort = sort_meant c.args.table.now.sorts c.args.sort in
    let t = tree_meant c.args.tree in
    λ s h.
    let r = subst (λ (b : BindingsView). HasOne s (store c.read_of_sort.new.table c.read_of_sort.new.scope) (reading_of_sort w s (bound_at c.args.table.now b) sort t) (c.in-Ok.id, c.in-Ok.field-0-1.items)) c.new.ensures (c.in-Ok.ensures.ends s h) in
    reading_room_fault (room_meant c.args.room) w s sort t r.reading c.in-Err-find_room.stop r.read
    (subst (λ u. HasFault (within (room_meant c.args.room) (with_definitions s r.reading.made) (u ∷ [])) c.in-Err-find_room.stop) r.term.1 (c.in-Err-find_room.ensures (with_definitions s r.reading.made) r.represents.count))

pub returns-clause-ends : goal.returns-clause-ends
returns-clause-ends c =
    let w = setting_meant c.args.setting in
    let sort = sort_meant c.args.table.now.sorts c.args.sort in
    let t = tree_meant c.args.tree in
    λ s h.
    let r = subst (λ (b : BindingsView). HasOne s (store c.read_of_sort.new.table c.read_of_sort.new.scope) (reading_of_sort w s (bound_at c.args.table.now b) sort t) (c.in-Ok.id, c.in-Ok.field-0-1.items)) c.new.ensures (c.in-Ok.ensures.ends s h) in
    record {
      reading = r.reading;
      read = reading_room (room_meant c.args.room) w s sort t r.reading r.read (ap (λ u. within (room_meant c.args.room) (with_definitions s r.reading.made) (u ∷ [])) (sym r.term.1) ∙ c.in-Ok-find_room.ensures (with_definitions s r.reading.made) r.represents.count);
      term = r.term;
      represents = r.represents;
    }
