-- There is one check, or none, and one reading of the file.
use Rattle.spec_commands.specs.Checks.{term_limit}
use Rattle.spec_model_files.proofs.Endings.{one_verdict}
use Rattle.spec_model_files.proofs.laws.model_verdict_is_one.Goals as goal

pub returns : goal.returns
returns c = λ script model k a b. one_verdict c.lexemes_are_read_up_to_one_end.ensures script model k a b (c.texts_have_one_check_of_a_number.ensures.one term_limit script k) (c.texts_have_one_check_of_a_number.ensures.other term_limit script k)
