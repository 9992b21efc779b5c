use Rattle.spec_tableaux.proofs.OrderedSpaces.{pairs_are_space, pairs_are_ordered, pair_tells_apart}
use Rattle.spec_tableaux.proofs.laws.pairs_are_an_ordered_space.Goals as goal

pub returns : goal.returns
returns c d = record { space = pairs_are_space; ordered = pairs_are_ordered; one = pair_tells_apart }
