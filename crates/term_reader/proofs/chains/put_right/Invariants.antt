use Rattle.std.proofs.Common.{length}
use Rattle.spec_sorts.specs.Terms.{no_term, pair}
use Rattle.spec_sorts.specs.Lists.{right}
use Rattle.term_core.specs.Tables.{clause_at}
use Rattle.term_reader.specs.Building.{binary_head}
use Rattle.term_reader.proofs.Folding.{IsFolded, to_right}
use Rattle.term_reader.proofs.chains.put_right.Given as goal

abbrev pub invariant-arguments : goal.invariant-arguments
invariant-arguments l = IsFolded l.head (to_right (binary_head l.head)) l.fn.table l.table (right no_term (pair (binary_head l.head)) (clause_at l.fn.table l.ids)) l.whole l.rest

abbrev pub decreases-arguments : goal.decreases-arguments
decreases-arguments l = length l.rest
