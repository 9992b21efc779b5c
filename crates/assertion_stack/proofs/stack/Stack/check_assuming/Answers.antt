-- A check that assumes what is read with room; at a fault the table is cut back.
use Rattle.std.proofs.Common.{◌≡◌, true, Some, refl, sym, ap, ◌∙◌, subst}
use Rattle.spec_commands.specs.Stack.{check, begun, signature_of}
use Rattle.smt_sexpr.specs.Items.{trees_meant}
use Rattle.term_reader.specs.Scopes.{ScopeView}
use Rattle.sort_check.specs.Reads.{room_meant}
use Rattle.assertion_stack.specs.Stacks.{over_table, IsStack}
use Rattle.assertion_stack.proofs.Back.{table_back}
use Rattle.assertion_stack.proofs.Stacks.{stack_grown, begun_stack}
use Rattle.assertion_stack.proofs.ReadLiterals.{check_fails, check_done, roomy_begin, roomy_printed}
use Rattle.assertion_stack.proofs.stack.Stack.check_assuming.Goals as goal

pub assume-requires : goal.assume-requires
assume-requires c = (signature_of c.requires.1, c.requires.2.states.scope)

pub returns-in-Ok-assume-clause-performs : goal.returns-in-Ok-assume-clause-performs
returns-in-Ok-assume-clause-performs c limit s h =
    let r = c.in-Ok-assume.ensures.ends (signature_of s) h.states.scope in
    let x = c.args.self.now in
    let t = c.assume.new.table in
    let room : room_meant c.room-room.result ≡ record { limit = Some limit; at = c.args.at } = ap room_meant c.room-room.ensures ∙ ap (λ l. record { limit = Some l; at = c.args.at }) h.limit_is in
    let next = begun_stack limit t x s (stack_grown limit c.args.table.now t x s h c.in-Ok-assume.ensures.keeps) in (
      record { effect = check c.args.place r.0; stack = begun s },
      check_done limit c.args.at c.args.place s (trees_meant c.args.literals) (room_meant c.room-room.result) room r.0 r.1,
      (
        r.0,
        refl,
        r.2,
        c.in-Ok.ensures.0 ∙ roomy_begin (room_meant c.room-room.result) (signature_of s) (trees_meant c.args.literals) r.0 r.1,
        c.in-Ok.ensures.1 ∙ roomy_printed (room_meant c.room-room.result) (signature_of s) (trees_meant c.args.literals) r.0 r.1,
      ),
      subst (λ (v : ScopeView). IsStack limit (over_table t (record x { scope = v; started = true })) (begun s)) (sym c.in-Ok-assume.ensures.same) next,
    )

pub returns-in-Ok-assume-clause-check : goal.returns-in-Ok-assume-clause-check
returns-in-Ok-assume-clause-check c =
    let x = c.args.self.now in
    (c.in-Ok-assume.ensures.keeps, ap (λ (v : ScopeView). record x { scope = v; started = true }) c.in-Ok-assume.ensures.same)

pub returns-in-Err-clause-performs : goal.returns-in-Err-clause-performs
returns-in-Err-clause-performs c limit s h =
    let room : room_meant c.room-room.result ≡ record { limit = Some limit; at = c.args.at } = ap room_meant c.room-room.ensures ∙ ap (λ l. record { limit = Some l; at = c.args.at }) h.limit_is in
    check_fails limit c.args.at c.args.place s (trees_meant c.args.literals) (room_meant c.room-room.result) room c.in-Err.stop (c.in-Err.ensures.ends (signature_of s) h.states.scope)

pub returns-in-Err-clause-same : goal.returns-in-Err-clause-same
returns-in-Err-clause-same c =
    let x = c.args.self.now in (
      ap (λ (v : ScopeView). record x { scope = v }) c.in-Err.ensures.same,
      table_back c.args.table.now c.assume.new.table c.cut.new.self c.len-terms.result c.in-Err.ensures.keeps c.len-terms.ensures c.cut.ensures.terms c.cut.ensures.declared,
    )
