-- That what is after definitions begins with no tree.
use Rattle.spec_model_files.proofs.Endings.{one_text, one_reading}
use Rattle.spec_model_files.proofs.laws.model_files_have_one_reading.Goals as goal

pub returns-clause-text : goal.returns-clause-text
returns-clause-text c = one_text c.lexemes_are_read_up_to_one_end.ensures

pub returns-clause-reading : goal.returns-clause-reading
returns-clause-reading c = one_reading c.lexemes_are_read_up_to_one_end.ensures
