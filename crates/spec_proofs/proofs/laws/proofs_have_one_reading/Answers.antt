-- That what is after commands begins with no tree.
use Rattle.spec_proofs.proofs.Endings.{one_text}
use Rattle.spec_proofs.proofs.laws.proofs_have_one_reading.Goals as goal

pub returns : goal.returns
returns c = one_text c.lexemes_are_read_up_to_one_end.ensures
