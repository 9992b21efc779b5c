-- That a step is not taken whose test leaves the bound.
use Rattle.spec_rules.specs.Schemes.{kind_of}
use Rattle.spec_rules.proofs.Rules.{never_both}
use Rattle.spec_rules.proofs.laws.wide_steps_are_not_right.Goals as goal

pub returns : goal.returns
returns c = λ rule premises arguments clause wide right. never_both (kind_of rule) premises arguments clause wide right
