-- By the operations on fractions.
use Rattle.spec_causes.proofs.CauseFaults.{cause_overflows, strain_overflows}
use Rattle.spec_causes.proofs.laws.causes_are_overflows.Goals as goal

pub returns-clause-simplex : goal.returns-clause-simplex
returns-clause-simplex c = cause_overflows

pub returns-clause-search : goal.returns-clause-search
returns-clause-search c = strain_overflows
