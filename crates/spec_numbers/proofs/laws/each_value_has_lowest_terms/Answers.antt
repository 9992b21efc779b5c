use Rattle.spec_numbers.proofs.Lowest.{lowest-reduced, lowest-value}
use Rattle.spec_numbers.proofs.laws.each_value_has_lowest_terms.Goals as goal

pub returns : goal.returns
returns c = record { reduced = lowest-reduced; value = lowest-value }
