-- As a head gives again what it gave.
use Rattle.spec_causes.proofs.SharedNumbers.{still_hold}
use Rattle.spec_causes.proofs.laws.numbers_of_heads_may_be_taken.Goals as goal

pub returns : goal.returns
returns c = still_hold
