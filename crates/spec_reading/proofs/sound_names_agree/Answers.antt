-- That names agree with their terms.
use Rattle.spec_reading.proofs.Sound.{agrees}
use Rattle.spec_reading.proofs.sound_names_agree.Goals as goal

pub returns : goal.returns
returns c = λ s a i. agrees i s a
