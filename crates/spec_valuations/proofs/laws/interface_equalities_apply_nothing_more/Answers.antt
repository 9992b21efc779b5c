-- By what equalities, facts and orders are made of.
use Rattle.spec_valuations.proofs.Applications.{nothing_more}
use Rattle.spec_valuations.proofs.laws.interface_equalities_apply_nothing_more.Goals as goal

pub returns : goal.returns
returns c = nothing_more
