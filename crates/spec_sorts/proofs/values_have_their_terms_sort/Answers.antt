-- That values have sorts.
use Rattle.spec_sorts.proofs.SortsOfValues.{value_has_sort, formula_value}
use Rattle.spec_sorts.proofs.values_have_their_terms_sort.Goals as goal

pub returns-clause-term : goal.returns-clause-term
returns-clause-term c = λ i symbols ps vs t interprets w h. value_has_sort i symbols interprets ps vs t w h

pub returns-clause-formula : goal.returns-clause-formula
returns-clause-formula c = formula_value
