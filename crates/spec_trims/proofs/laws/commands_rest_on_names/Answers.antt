-- By the forms of texts.
use Rattle.spec_trims.proofs.Used.{rests_by_names}
use Rattle.spec_trims.proofs.laws.commands_rest_on_names.Goals as goal

pub returns : goal.returns
returns c = λ ds t shape is. rests_by_names ds t shape is
