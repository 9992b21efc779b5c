-- What the first step keeps the second one does.
use Rattle.tableau.specs.Numbers.{number_of}
use Rattle.simplex_bounds.specs.Deltas.{pair_of, range_of}
use Rattle.simplex_numbers.proofs.Keeping.{smaller_again, off_both}
use Rattle.simplex_numbers.proofs.Epsilons.{half_in, none_in}
use Rattle.simplex_numbers.proofs.narrowing.narrowed_by.Goals as goal

pub returns-clause-smaller : goal.returns-clause-smaller
returns-clause-smaller c = smaller_again c.narrowed_below.result (number_of c.args.e) (number_of c.in_ok-small.small) c.in_ok-small.ensures.smaller c.narrowed_below.ensures.smaller

pub returns-clause-off : goal.returns-clause-off
returns-clause-off c =
    off_both c.narrowed_below.result (number_of c.in_ok-small.small) (range_of c.args.range) (pair_of c.args.x) c.in_ok-small.ensures.stays
    c.narrowed_below.ensures.smaller c.narrowed_below.ensures.stays

pub returns-clause-is : goal.returns-clause-is
returns-clause-is c = half_in c.narrowed_below.result c.args.e c.in_ok-small.small (range_of c.args.range) (pair_of c.args.x) c.in_ok-small.ensures.is c.narrowed_below.ensures.is

pub returns-clause-least : goal.returns-clause-least
returns-clause-least c =
    none_in c.narrowed_below.result (number_of c.in_ok-small.small) (range_of c.args.range) (pair_of c.args.x) c.in_ok-small.ensures.least
    c.narrowed_below.ensures.smaller c.narrowed_below.ensures.least
