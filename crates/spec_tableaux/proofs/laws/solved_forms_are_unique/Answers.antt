use Rattle.spec_tableaux.proofs.Unique.{one_solved_form}
use Rattle.spec_tableaux.proofs.laws.solved_forms_are_unique.Goals as goal

pub returns : goal.returns
returns c d = one_solved_form
