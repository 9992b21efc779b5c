-- That an asserted text has its term's value.
use Rattle.spec_reading.specs.Names.{script}
use Rattle.spec_reading.proofs.Sound.{text_value}
use Rattle.spec_reading.proofs.terms_have_their_texts_value.Goals as goal

pub returns : goal.returns
returns c = λ s t r a e i. text_value script s t r (a, tt) e i
