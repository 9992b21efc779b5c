use Rattle.std.proofs.Common.{length}
use Rattle.term_reader.proofs.Putting.{IsPut}
use Rattle.term_reader.proofs.chains.put_links.Given as goal

abbrev pub invariant-pairs : goal.invariant-pairs
invariant-pairs l = IsPut l.link l.fn.table l.table l.pairs l.parts.items l.rest

abbrev pub decreases-pairs : goal.decreases-pairs
decreases-pairs l = length l.rest
