-- As no basic variable violates a bound.
use Rattle.spec_causes.proofs.IdleChecks.{kept_makes_none, kept_is_not_short}
use Rattle.spec_causes.proofs.laws.kept_bounds_make_no_run.Goals as goal

pub returns-clause-none : goal.returns-clause-none
returns-clause-none c = kept_makes_none

pub returns-clause-whole : goal.returns-clause-whole
returns-clause-whole c = kept_is_not_short
