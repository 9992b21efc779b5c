use Rattle.std.proofs.Common.{◌≡◌, ◌++◌, length}
use Rattle.spec_sorts.specs.Lists.{neighbours}
use Rattle.term_reader.proofs.chains.neighbour_pairs.Given as goal

abbrev pub invariant-ids : goal.invariant-ids
invariant-ids l = l.pairs.items ++ neighbours l.rest ≡ neighbours l.fn.ids

abbrev pub decreases-ids : goal.decreases-ids
decreases-ids l = length l.rest
