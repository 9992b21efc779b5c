-- By what simplex came to last.
use Rattle.std.proofs.Common.{refl}
use Rattle.spec_causes.proofs.IdleChecks.{uncounted}
use Rattle.spec_causes.proofs.laws.exchanges_are_counted.Goals as goal

pub returns : goal.returns
returns c = λ ts es s h. uncounted ts 0 es s h refl
