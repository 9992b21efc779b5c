-- By the sign of the difference of both sides, which is the value of the form.
use Rattle.spec_simplex.proofs.Comparisons.{sides_compared}
use Rattle.spec_simplex.proofs.laws.forms_compare_numbers.Goals as goal

pub returns : goal.returns
returns c = sides_compared
