-- Both texts were read, and the verdict on them is known.
use Rattle.judge_run.specs.Runs.{judged_texts}
use Rattle.judge_run.specs.Calls.{names_of}
use Rattle.judge_run.proofs.Statuses.{ends_with}
use Rattle.judge_run.proofs.run.run_judge.Goals as goal

pub returns-in-Ok-clause-ends : goal.returns-in-Ok-clause-ends
returns-in-Ok-clause-ends g c =
    let script = c.in-Ok.ensures.script in
    let judged = c.in-Ok.ensures.judged in
    let n = names_of c.args.request in
    ends_with c.report.result n (g.F.Shelf.holds c.args.shelf.now) _ _ script.0 judged.0 script.2 judged.2
    (c.report.ensures.reports (judged_texts n script.0 judged.0) (c.judge.ensures script.0 judged.0 script.1 judged.1))
