-- The step that came is a lemma, and false where the literals hold.
use Rattle.simplex_explain.proofs.Stated.{stated_derives, stated_clash}
use Rattle.simplex_explain.proofs.stating.refute.Goals as goal

pub returns-in-Ok-clause-derives : goal.returns-in-Ok-clause-derives
returns-in-Ok-clause-derives g c =
    stated_derives c.args.table.now c.stated.new.table c.args.log.now c.stated.new.log c.args.reasons.now c.in-Ok.step c.in-Ok.ensures.stated g.terms c.stated.ensures.wider c.requires.1

pub returns-in-Ok-clause-clash : goal.returns-in-Ok-clause-clash
returns-in-Ok-clause-clash g c =
    stated_clash c.args.table.now c.stated.new.table c.args.log.now c.stated.new.log c.args.reasons.now c.in-Ok.step c.in-Ok.ensures.stated g.terms c.stated.ensures.wider c.requires.1 c.ids_are_unique.ensures
