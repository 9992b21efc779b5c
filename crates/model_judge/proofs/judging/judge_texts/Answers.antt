-- The verdict from what the check asks about, or that there is no such check.
use Rattle.model_judge.proofs.Judged.{no_check}
use Rattle.model_judge.proofs.judging.judge_texts.Goals as goal

pub judge_standing-requires : goal.judge_standing-requires
judge_standing-requires c = (c.args.at, rw c.in-Ok-Some.field-0-is at c.in-Ok-Some.ensures)

pub returns-in-Ok-Some : goal.returns-in-Ok-Some
returns-in-Ok-Some c = c.judge_standing.ensures c.args.at (rw c.in-Ok-Some.field-0-is at c.in-Ok-Some.ensures)

pub returns-in-Ok-None : goal.returns-in-Ok-None
returns-in-Ok-None c = no_check c.args.script.now c.args.at c.args.model.now c.refused.result (rw c.in-Ok-None.field-0-is at c.in-Ok-None.ensures) c.refused.ensures
