use Rattle.std.proofs.Common.{ap}
use Rattle.spec_sorts.specs.Terms.{sort_of}
use Rattle.term_reader.proofs.building.put_unequal.Goals as goal

pub put_negated-requires : goal.put_negated-requires
unfolding sort_of
put_negated-requires c = (c.in-Ok.ensures.ends.0, ap sort_of c.in-Ok.ensures.ends.1)
