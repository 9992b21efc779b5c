-- That each rule keeps truth.
use Rattle.spec_equality.proofs.Sound.{equating_true}
use Rattle.spec_equality.proofs.laws.equality_rules_are_sound.Goals as goal

pub returns : goal.returns
returns c = λ rule premises clause i. equating_true i rule premises clause
