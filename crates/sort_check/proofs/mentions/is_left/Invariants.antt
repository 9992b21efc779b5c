use Rattle.std.proofs.Common.{◌≡◌}
use Rattle.sort_check.specs.Mentions.{names_of, rest_of, rest_mentions, left_size}
use Rattle.sort_check.proofs.mentions.is_left.Given as goal

abbrev pub invariant-left : goal.invariant-left
invariant-left l = rest_mentions (names_of l.fn.bound) (rest_of l.fn.search) ≡ rest_mentions (names_of l.fn.bound) (rest_of l.search)

abbrev pub decreases-left : goal.decreases-left
decreases-left l = left_size (rest_of l.search).left
