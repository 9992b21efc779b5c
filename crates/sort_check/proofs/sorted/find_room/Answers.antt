-- Whether there is room.
use Rattle.std.proofs.Common.{sym, ap, ◌∙◌}
use Rattle.std.specs.Prelude.{nat_le, Err}
use Rattle.term_core.specs.Tables.{clause_at}
use Rattle.term_reader.specs.Names.{located_of}
use Rattle.sort_check.specs.Reads.{within}
use Rattle.sort_check.proofs.Rooms.{no_room_for_names, no_room_for_terms, room_for_both}
use Rattle.sort_check.proofs.sorted.find_room.Goals as goal

pub returns-then-not-has_room : goal.returns-then-not-has_room
returns-then-not-has_room c =
    let ts = clause_at c.args.table.now c.args.ids.now in
    let limit = c.in-Some.limit in
    λ s count.
    ap (λ l. within (record { limit = l; at = c.args.room.at }) s ts) c.in-Some.is
    ∙ no_room_for_names c.args.room.at limit s ts (ap (λ n. nat_le n limit) (sym count) ∙ sym c.has_room.ensures ∙ c.if-not-has_room.true)
    ∙ ap (λ f. Err (located_of f)) (sym c.fault_at.ensures)

pub returns-in-Ok-true : goal.returns-in-Ok-true
returns-in-Ok-true c =
    let ts = clause_at c.args.table.now c.args.ids.now in
    let limit = c.in-Some.limit in
    λ s count.
    ap (λ l. within (record { limit = l; at = c.args.room.at }) s ts) c.in-Some.is
    ∙ room_for_both c.args.room.at limit s ts (ap (λ n. nat_le n limit) (sym count) ∙ sym c.has_room.ensures ∙ c.if-not-has_room.false) (sym c.in-Ok-true.ensures ∙ c.in-Ok-true.field-0-test)

pub returns-in-Ok-false : goal.returns-in-Ok-false
returns-in-Ok-false c =
    let ts = clause_at c.args.table.now c.args.ids.now in
    let limit = c.in-Some.limit in
    λ s count.
    ap (λ l. within (record { limit = l; at = c.args.room.at }) s ts) c.in-Some.is
    ∙ no_room_for_terms c.args.room.at limit s ts (ap (λ n. nat_le n limit) (sym count) ∙ sym c.has_room.ensures ∙ c.if-not-has_room.false) (sym c.in-Ok-false.ensures ∙ c.in-Ok-false.field-0-test)
    ∙ ap (λ f. Err (located_of f)) (sym c.fault_at-in-Ok-false.ensures)
