-- That a model's tables are those of an interpretation, and what such a one is.
use Rattle.search_model.proofs.Interpreting.{interpretation, models_by}
use Rattle.search_model.proofs.laws.made_models_have_interpretations.Goals as goal

pub returns-clause-represents : goal.returns-clause-represents
returns-clause-represents c t held terms classes numbers interp apart model = interpretation t interp apart

pub returns-clause-models : goal.returns-clause-models
returns-clause-models c = models_by
