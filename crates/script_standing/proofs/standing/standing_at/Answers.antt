-- What the check asks about, from what was loaded.
use Rattle.std.proofs.Common.{refl}
use Rattle.assertion_stack.specs.Stacks.{over_table}
use Rattle.script_standing.proofs.Asked.{as_many, stands}
use Rattle.script_standing.proofs.standing.standing_at.Goals as goal

pub asked-requires : goal.asked-requires
asked-requires c =
    let loaded = c.in-Ok-Some.loaded in
    as_many c.args.script.now c.args.at (over_table loaded.table loaded.stack) loaded.assumed (rw c.in-Ok-Some.field-0-is at c.in-Ok-Some.ensures)

pub returns-in-Ok : goal.returns-in-Ok
returns-in-Ok c =
    let loaded = c.in-Ok-Some.loaded in
    stands c.args.script.now c.args.at _ loaded.stack loaded.assumed (rw c.in-Ok-Some.field-0-is at c.in-Ok-Some.ensures) refl c.in-Ok.ensures
