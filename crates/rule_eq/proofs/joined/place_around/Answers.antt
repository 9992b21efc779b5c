-- That a reason is at a place, or at none.
use Rattle.rule_eq.specs.Reasoning.{reasons_meant}
use Rattle.rule_eq.proofs.Joining.{found}
use Rattle.rule_eq.proofs.joined.place_around.Goals as goal

pub returns : goal.returns
returns c = found c.args.table.now (reasons_meant c.args.table.now c.args.reasons) c.args.pair c.args.from c.count.result (c.count.ensures c.args.table.now)
    (rw (c.count.ensures c.args.table.now) c.requires.from) c.in_default.ensures c.place_between-2.result c.place_between-2.ensures
