-- A whole proof, by its commands and what is answered after them.
use Rattle.alethe_check.proofs.Judged.{text_judged, text_stops}
use Rattle.alethe_check.proofs.judge.judge.Goals as goal

pub returns : goal.returns
returns c k known =
    let j = c.in_ok-judge_commands.ensures k known in
    text_judged c.new-reader.result c.args.text.now k c.judge_commands.new.state c.new-reader.ensures.text c.new-reader.ensures.all c.finish.result j (c.finish.ensures j.after.now j.after.known)

pub returns-in_err-judge_commands : goal.returns-in_err-judge_commands
returns-in_err-judge_commands c k known =
    text_stops c.new-reader.result c.args.text.now k c.judge_commands.new.state c.new-reader.ensures.text c.new-reader.ensures.all _ c.from_residual.result (c.in_err-judge_commands.ensures k known) c.from_residual.ensures.1
