-- That each place is looked at.
use Rattle.rule_eq.specs.Reasoning.{reasons_meant}
use Rattle.rule_eq.proofs.Joining.{none_more}
use Rattle.rule_eq.proofs.joined.place_between.Goals as goal

pub loop-place-preserved : goal.loop-place-preserved
loop-place-preserved c = none_more c.args.table.now (reasons_meant c.args.table.now c.args.reasons) c.args.pair c.args.from c.loop-place.place c.loop-place.invariant c.if-joins_at.ensures
