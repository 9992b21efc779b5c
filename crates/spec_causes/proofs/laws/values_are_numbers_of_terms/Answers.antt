-- By the values of its form's variables.
use Rattle.spec_causes.proofs.AtNumbers.{value_at_number}
use Rattle.spec_causes.proofs.laws.values_are_numbers_of_terms.Goals as goal

pub returns : goal.returns
returns c = λ e s n owned_values others symbols u p linear v. value_at_number e s n owned_values others symbols u p linear v
