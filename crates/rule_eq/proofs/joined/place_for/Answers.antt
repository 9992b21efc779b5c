-- That two terms are one or have a place.
use Rattle.rule_eq.specs.Reasoning.{reasons_meant}
use Rattle.rule_eq.proofs.Joining.{placed}
use Rattle.rule_eq.proofs.joined.place_for.Goals as goal

pub returns : goal.returns
returns c = placed c.args.table.now (reasons_meant c.args.table.now c.args.reasons) c.args.pair c.ids_are_unique.ensures c.requires.one c.requires.other c.if-same_number.ensures c.place_around.result c.place_around.ensures
