-- Both go by the same cases.
use Rattle.spec_models.proofs.Scripts.{tree_same}
use Rattle.spec_models.proofs.laws.other_texts_mean_what_they_do_in_scripts.Goals as goal

pub returns : goal.returns
returns c = tree_same
