-- That the last clause is false, and that table and log are cut back.
use Rattle.proof_log.specs.Theories.{derived}
use Rattle.congruence_explain.proofs.Concluding.{explained_clash}
use Rattle.congruence_explain.proofs.explaining.explain.Goals as goal

pub returns-in-Ok-clause-clash : goal.returns-in-Ok-clause-clash
returns-in-Ok-clause-clash g c =
    explained_clash c.args.table.now c.args.truths c.args.forest.now.now g.facts c.requires.1.0 (derived c.explained.new.table c.explained.new.log) c.explained.ensures.derives.table c.ids_are_unique.ensures
    c.args.conflict c.requires.1.1 c.in-Ok.step c.in-Ok.ensures.step
