-- That each rule keeps truth.
use Rattle.spec_rules.proofs.Rules.{rule_true}
use Rattle.spec_rules.proofs.laws.rules_are_sound.Goals as goal

pub returns : goal.returns
returns c = λ symbols rule premises arguments clause i. rule_true i symbols rule premises arguments clause
