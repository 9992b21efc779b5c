-- Memory ran out before anything was read.
use Rattle.script_run.specs.Scripts.{run_start}
use Rattle.script_run.proofs.Turning.{nothing_ends}
use Rattle.script_run.proofs.script.run_begun.Goals as goal

pub returns-in_default-clause-ends : goal.returns-in_default-clause-ends
returns-in_default-clause-ends g c =
    nothing_ends c.answers_say_what_is_so.ensures.whole c.answers_say_what_is_so.ensures.begun (λ text at. c.each_text_is_read.ensures text at 0) (run_start c.args.limits.now c.args.mode (g.K.Sink.state c.args.out.now)) (g.F.Shelf.left c.args.shelf.now) (g.F.Shelf.left c.args.shelf.now)
