-- That the numbers of the function give each symbol the same table.
use Rattle.search_model.proofs.NumbersGiven.{models_by_numbers}
use Rattle.search_model.proofs.laws.made_models_are_those_of_numbers.Goals as goal

pub returns : goal.returns
returns c = models_by_numbers
