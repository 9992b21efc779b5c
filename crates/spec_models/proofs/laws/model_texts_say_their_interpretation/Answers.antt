-- The lines are read one after the other.
use Rattle.spec_models.proofs.Definitions.{model_read}
use Rattle.spec_models.proofs.laws.model_texts_say_their_interpretation.Goals as goal

pub returns : goal.returns
returns c = model_read
