-- By the sort of a side.
use Rattle.spec_interfaces.proofs.Apart.{shared_of_numbers, element_of_none}
use Rattle.spec_interfaces.proofs.laws.interface_equalities_are_of_numbers_or_elements.Goals as goal

pub returns-clause-numbers : goal.returns-clause-numbers
returns-clause-numbers c = shared_of_numbers

pub returns-clause-elements : goal.returns-clause-elements
returns-clause-elements c = element_of_none
