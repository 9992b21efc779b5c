-- Texts of a sort, where there is room.
use Rattle.std.proofs.Common.{sym, ap, ◌∙◌, subst}
use Rattle.spec_sorts.specs.Signatures.{with_definitions}
use Rattle.smt_sexpr.specs.Items.{trees_meant}
use Rattle.term_core.specs.Symbols.{sort_meant}
use Rattle.term_core.specs.Tables.{clause_at}
use Rattle.term_reader.specs.Names.{setting_meant}
use Rattle.sort_check.specs.Reads.{room_meant, within, HasFault}
use Rattle.sort_check.proofs.Rooms.{readings_fault, readings_room_fault, readings_room}
use Rattle.sort_check.proofs.sorted.read_terms.Goals as goal

pub returns-in-Err-clause-ends : goal.returns-in-Err-clause-ends
returns-in-Err-clause-ends c =
    λ s h. readings_fault (room_meant c.args.room) (setting_meant c.args.setting) s (sort_meant c.args.table.now.sorts c.args.sort) (trees_meant c.args.trees) c.in-Err.stop (c.in-Err.ensures.ends s h)

pub returns-in-Err-find_room-clause-ends : goal.returns-in-Err-find_room-clause-ends
returns-in-Err-find_room-clause-ends c =
    λ s h.
    let r = c.in-Ok.ensures.ends s h in
    let at = with_definitions s r.readings.made in
    let terms = ap (clause_at c.read_all.new.table) c.deref.ensures.value ∙ r.terms in
    readings_room_fault (room_meant c.args.room) (setting_meant c.args.setting) s (sort_meant c.args.table.now.sorts c.args.sort) (trees_meant c.args.trees) r.readings c.in-Err-find_room.stop r.read
    (subst (λ us. HasFault (within (room_meant c.args.room) at us) c.in-Err-find_room.stop) terms (c.in-Err-find_room.ensures at r.represents.count))

pub returns-in-Ok-find_room-clause-ends : goal.returns-in-Ok-find_room-clause-ends
returns-in-Ok-find_room-clause-ends c =
    λ s h.
    let r = c.in-Ok.ensures.ends s h in
    let at = with_definitions s r.readings.made in
    let terms = ap (clause_at c.read_all.new.table) c.deref.ensures.value ∙ r.terms in
    record {
      readings = r.readings;
      read = readings_room (room_meant c.args.room) (setting_meant c.args.setting) s (sort_meant c.args.table.now.sorts c.args.sort) (trees_meant c.args.trees) r.readings r.read (ap (within (room_meant c.args.room) at) (sym terms) ∙ c.in-Ok-find_room.ensures at r.represents.count);
      there = r.there;
      terms = r.terms;
      represents = r.represents;
    }
