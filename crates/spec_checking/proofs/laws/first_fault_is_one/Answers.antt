-- That the first fault is one.
use Rattle.spec_checking.proofs.Sound.{fault_one}
use Rattle.spec_checking.proofs.laws.first_fault_is_one.Goals as goal

pub returns : goal.returns
returns c = fault_one c.wide_steps_are_not_right.ensures
