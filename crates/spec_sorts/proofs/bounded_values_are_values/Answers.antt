-- That a bounded value is the value.
use Rattle.spec_sorts.proofs.Bounded.{bounded_is}
use Rattle.spec_sorts.proofs.bounded_values_are_values.Goals as goal

pub returns : goal.returns
returns c = bounded_is
