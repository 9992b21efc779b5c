-- What a valid model means.
use Rattle.model_judge.proofs.Judged.{valid_gives}
use Rattle.model_judge.proofs.judge.Goals as goal

pub returns-clause-valid : goal.returns-clause-valid
returns-clause-valid c = valid_gives c.args.script.now c.args.at c.args.model.now c.judge_texts.result c.judge_texts.ensures (λ v. c.valid_models_make_true.ensures.model c.args.script.now c.args.model.now c.args.at v)
