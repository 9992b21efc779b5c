-- What a definition makes is in the scope, or its first fault.
use Rattle.std.proofs.Common.{◌∷◌, refl, ◌∙◌}
use Rattle.spec_commands.specs.Checks.{term_limit}
use Rattle.spec_checking.specs.Reading.{named_in}
use Rattle.smt_command.specs.Commands.{parts_view}
use Rattle.sort_check.specs.Reads.{room_meant, roomy_definitions}
use Rattle.alethe_reader.proofs.Rooms.{definitions_roomy}
use Rattle.alethe_reader.proofs.ReadParts.{definition_read, fault_read}
use Rattle.alethe_reader.proofs.terms.definition.Goals as goal

pub returns-in-Ok : goal.returns-in-Ok
returns-in-Ok c k is =
    let d = parts_view c.args.parts in
    let same = (λ i. roomy_definitions (room_meant (c.room.ensures i)) (c.in_proof.ensures i) k.scope d) ∙ definitions_roomy term_limit c.args.at k.scope d in
    definition_read c.args.state.now _ k is c.in-Ok.ensures.grows refl refl refl (d.name ∷ named_in d.body) _ _ same (c.in-Ok.ensures.ends k.scope is.scope)

pub returns-in-Err : goal.returns-in-Err
returns-in-Err c k is =
    let d = parts_view c.args.parts in
    let same = (λ i. roomy_definitions (room_meant (c.room.ensures i)) (c.in_proof.ensures i) k.scope d) ∙ definitions_roomy term_limit c.args.at k.scope d in
    fault_read (d.name ∷ named_in d.body) _ _ c.in-Err.error _ same (c.in-Err.ensures.ends k.scope is.scope) c.error_in_definition.ensures
