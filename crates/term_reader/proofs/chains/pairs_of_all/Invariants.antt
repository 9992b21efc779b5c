use Rattle.std.proofs.Common.{◌≡◌, ◌++◌, length}
use Rattle.spec_sorts.specs.Lists.{all_pairs}
use Rattle.term_reader.proofs.chains.pairs_of_all.Given as goal

abbrev pub invariant-ids : goal.invariant-ids
invariant-ids l = l.pairs.items ++ all_pairs l.rest ≡ all_pairs l.fn.ids

abbrev pub decreases-ids : goal.decreases-ids
decreases-ids l = length l.rest
