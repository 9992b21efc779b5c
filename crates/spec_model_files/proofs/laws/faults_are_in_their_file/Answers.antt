-- Each fault is given at an offset of the definitions, or by the lexemes after them.
use Rattle.spec_model_files.proofs.Within.{reading_in}
use Rattle.spec_model_files.proofs.laws.faults_are_in_their_file.Goals as goal

pub returns : goal.returns
returns c = λ g text f. reading_in c.trees_are_in_their_text.ensures.all c.lexical_faults_are_in_their_text.ensures text g f
