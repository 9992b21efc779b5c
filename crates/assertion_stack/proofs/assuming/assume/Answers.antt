-- Literals, where there is room for their terms.
use Rattle.std.proofs.Common.{◌+◌, length, sym, ap, ◌∙◌, subst}
use Rattle.smt_sexpr.specs.Items.{trees_meant}
use Rattle.term_core.specs.Tables.{AreIn, clause_at}
use Rattle.term_reader.specs.Scopes.{ScopeView}
use Rattle.sort_check.specs.Reads.{room_meant}
use Rattle.assertion_stack.proofs.ReadLiterals.{literals_fail, room_fails, room_there}
use Rattle.assertion_stack.proofs.assuming.assume.Goals as goal

pub returns-in-Err-clause-ends : goal.returns-in-Err-clause-ends
returns-in-Err-clause-ends c s h = literals_fail (room_meant c.args.room) s (trees_meant c.args.trees) c.in-Err.stop (c.in-Err.ensures.ends s h)

pub find_room-requires : goal.find_room-requires
find_room-requires c =
    let r = c.in-Ok.ensures.ends c.requires.0 c.requires.1 in
    subst (AreIn c.literals.new.table) (sym c.deref.ensures.value) r.2.inside

pub returns-in-Err-find_room-clause-ends : goal.returns-in-Err-find_room-clause-ends
returns-in-Err-find_room-clause-ends c s h =
    let r = c.in-Ok.ensures.ends s h in
    let t = c.literals.new.table in
    let terms = ap (clause_at t) c.deref.ensures.value ∙ r.2.terms in
    let count = ap (λ (v : ScopeView). length v.sort_names + length v.names) c.in-Ok.ensures.same ∙ h.count in
    room_fails (room_meant c.args.room) s (trees_meant c.args.trees) r.0 r.1 (clause_at t c.deref.result.now) terms c.in-Err-find_room.stop (c.in-Err-find_room.ensures s count)

pub returns-in-Ok-find_room-clause-ends : goal.returns-in-Ok-find_room-clause-ends
returns-in-Ok-find_room-clause-ends c s h =
    let r = c.in-Ok.ensures.ends s h in
    let t = c.literals.new.table in
    let terms = ap (clause_at t) c.deref.ensures.value ∙ r.2.terms in
    let count = ap (λ (v : ScopeView). length v.sort_names + length v.names) c.in-Ok.ensures.same ∙ h.count in
    (r.0, room_there (room_meant c.args.room) s (trees_meant c.args.trees) r.0 r.1 (clause_at t c.deref.result.now) terms (c.in-Ok-find_room.ensures s count), r.2)
