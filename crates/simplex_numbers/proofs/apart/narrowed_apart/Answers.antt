-- The values are in order once they are sorted, and are the same ones.
use Rattle.std.proofs.Common.{rules}
use Rattle.std.proofs.lemmas.List.Sorted.{answers_always}
use Rattle.simplex_numbers.specs.Values.{by_value}
use Rattle.simplex_numbers.proofs.Neighbours.{compared, ranks, is_from, least_from, overflows_from}
use Rattle.simplex_numbers.proofs.apart.narrowed_apart.Goals as goal

pub narrowed_for_neighbours-requires-clause-sorted : goal.narrowed_for_neighbours-requires-clause-sorted
narrowed_for_neighbours-requires-clause-sorted c =
    c.sort_unstable_by.ensures.sorted by_value ranks (answers_always _ _ _ (λ f a r g h. let is = compared a.0.now a.1.0.now in search rules))

pub returns-clause-is : goal.returns-clause-is
returns-clause-is c =
    is_from c.args.values.now c.sort_unstable_by.new.self c.sort_unstable_by.ensures.permutation c.narrowed_for_neighbours.result c.args.e c.narrowed_for_neighbours.ensures.is

pub returns-clause-least : goal.returns-clause-least
returns-clause-least c =
    least_from c.args.values.now c.sort_unstable_by.new.self c.sort_unstable_by.ensures.permutation c.narrowed_for_neighbours.result c.narrowed_for_neighbours.ensures.least

pub returns-clause-wide : goal.returns-clause-wide
returns-clause-wide c =
    overflows_from c.args.values.now c.sort_unstable_by.new.self c.sort_unstable_by.ensures.permutation c.narrowed_for_neighbours.result c.narrowed_for_neighbours.ensures.wide
