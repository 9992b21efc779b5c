-- The tables that are read are those of the check's symbols, and each expression's bounded value is its value.
use Rattle.spec_commands.specs.Checks.{term_limit}
use Rattle.spec_model_files.proofs.Models.{valid}
use Rattle.spec_model_files.proofs.laws.valid_models_make_true.Goals as goal

pub returns-clause-model : goal.returns-clause-model
returns-clause-model c = λ script model k v.
    let m = valid script k (c.assertions_have_their_texts_value.ensures.kept term_limit script k) (c.what_is_asked_has_its_texts_value.ensures.value term_limit script k) model v in
    (m.interpretation, m.true_under, m.says)

pub returns-clause-no_proof : goal.returns-clause-no_proof
returns-clause-no_proof c = λ script model proof k v accepted.
    let m = valid script k (c.assertions_have_their_texts_value.ensures.kept term_limit script k) (c.what_is_asked_has_its_texts_value.ensures.value term_limit script k) model v in
    c.acceptance_is_sound.ensures script proof k accepted m.interpretation m.true_under
