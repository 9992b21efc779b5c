-- Both readings stop where no tree begins.
use Rattle.spec_text.proofs.Stopping.{one_end}
use Rattle.spec_text.proofs.laws.a_text_is_read_up_to_one_end.Goals as goal

pub returns : goal.returns
returns c = one_end
