-- The text that was begun is the name's.
use Rattle.std.proofs.Common.{subst, List, ℕ, Option}
use Rattle.script_run.specs.Scripts.{EndsReading, run_meant, run_start}
use Rattle.script_run.proofs.Leaving.{script_ends}
use Rattle.script_run.proofs.retried.run_with_retries.Goals as goal

pub returns-clause-ends : goal.returns-clause-ends
returns-clause-ends g c =
    script_ends (run_meant c.args.mode c.args.name.now c.args.limits.now) c.run_begun.result (g.F.Shelf.holds c.args.shelf.now) (g.F.Shelf.left c.run_begun.new.shelf) (g.K.Sink.state c.args.out.now) (g.K.Sink.state c.run_begun.new.out)
    (subst (λ (held : Option (List ℕ)). EndsReading (run_start c.args.limits.now c.args.mode (g.K.Sink.state c.args.out.now)) c.run_begun.result held (g.F.Shelf.left c.run_begun.new.shelf) (g.K.Sink.state c.run_begun.new.out)) c.in-Ok.ensures.begun c.run_begun.ensures.ends)
