use Rattle.std.proofs.Common.{◌≡◌, ◌++◌, length, map}
use Rattle.term_reader.proofs.chains.pair_with_each.Given as goal

abbrev pub invariant-others : goal.invariant-others
invariant-others l = l.pairs.items ++ map (λ b. (l.first, b)) l.rest ≡ l.fn.pairs.items ++ map (λ b. (l.first, b)) l.others

abbrev pub decreases-others : goal.decreases-others
decreases-others l = length l.rest
