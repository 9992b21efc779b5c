-- That reading keeps values.
use Rattle.spec_reading.proofs.Values.{sound}
use Rattle.spec_reading.proofs.terms_have_their_texts_value_where_names_agree.Goals as goal

pub returns : goal.returns
returns c = λ w s b t r e i ps m h. sound i ps m w s b t r e h
