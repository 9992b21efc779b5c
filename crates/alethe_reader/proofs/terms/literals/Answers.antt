-- The literals that were read, in a table that grew, or their first fault.
use Rattle.std.proofs.Common.{refl, ◌∙◌}
use Rattle.spec_sorts.specs.Terms.{Truth}
use Rattle.spec_commands.specs.Checks.{term_limit}
use Rattle.spec_checking.specs.Reading.{named_in_all}
use Rattle.smt_sexpr.specs.Items.{trees_meant}
use Rattle.sort_check.specs.Reads.{room_meant, roomy_readings}
use Rattle.alethe_reader.proofs.Rooms.{literals_roomy}
use Rattle.alethe_reader.proofs.ReadParts.{literals_read, fault_read}
use Rattle.alethe_reader.proofs.terms.literals.Goals as goal

pub returns-in-Ok-clause-reads : goal.returns-in-Ok-clause-reads
returns-in-Ok-clause-reads c k is =
    let ts = trees_meant c.args.texts in
    let same = (λ i. roomy_readings (room_meant (c.room.ensures i)) (c.in_proof.ensures i) k.scope Truth ts) ∙ literals_roomy term_limit c.args.at k.scope ts in
    literals_read c.args.state.now _ k is c.in-Ok.ensures.grows refl refl refl (named_in_all ts) _ _ _ same (c.in-Ok.ensures.ends k.scope is.scope)

pub returns-in-Err-clause-reads : goal.returns-in-Err-clause-reads
returns-in-Err-clause-reads c k is =
    let ts = trees_meant c.args.texts in
    let same = (λ i. roomy_readings (room_meant (c.room.ensures i)) (c.in_proof.ensures i) k.scope Truth ts) ∙ literals_roomy term_limit c.args.at k.scope ts in
    fault_read (named_in_all ts) _ _ c.in-Err.error _ same (c.in-Err.ensures.ends k.scope is.scope) c.error_in_texts.ensures
