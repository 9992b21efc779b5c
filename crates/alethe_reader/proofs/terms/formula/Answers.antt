-- The formula that was read, in a table that grew, or its first fault.
use Rattle.std.proofs.Common.{refl, ◌∙◌}
use Rattle.spec_sorts.specs.Terms.{Truth}
use Rattle.spec_commands.specs.Checks.{term_limit}
use Rattle.spec_checking.specs.Reading.{named_in}
use Rattle.smt_sexpr.specs.Items.{tree_meant}
use Rattle.sort_check.specs.Reads.{room_meant, roomy_reading}
use Rattle.alethe_reader.proofs.Rooms.{formula_roomy}
use Rattle.alethe_reader.proofs.ReadParts.{formula_read, fault_read}
use Rattle.alethe_reader.proofs.terms.formula.Goals as goal

pub returns-in-Ok-clause-reads : goal.returns-in-Ok-clause-reads
returns-in-Ok-clause-reads c k is =
    let t = tree_meant c.args.text in
    let same = (λ i. roomy_reading (room_meant (c.room.ensures i)) (c.in_proof.ensures i) k.scope Truth t) ∙ formula_roomy term_limit c.args.at k.scope t in
    formula_read c.args.state.now _ k is c.in-Ok.ensures.grows refl refl refl (named_in t) _ _ _ same (c.in-Ok.ensures.ends k.scope is.scope)

pub returns-in-Err-clause-reads : goal.returns-in-Err-clause-reads
returns-in-Err-clause-reads c k is =
    let t = tree_meant c.args.text in
    let same = (λ i. roomy_reading (room_meant (c.room.ensures i)) (c.in_proof.ensures i) k.scope Truth t) ∙ formula_roomy term_limit c.args.at k.scope t in
    fault_read (named_in t) _ _ c.in-Err.error _ same (c.in-Err.ensures.ends k.scope is.scope) c.error_in_text.ensures
