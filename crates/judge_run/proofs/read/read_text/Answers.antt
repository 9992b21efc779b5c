-- What was read was taken.
use Rattle.std.proofs.Common.{subst}
use Rattle.script_run.specs.Scripts.{TakesText}
use Rattle.judge_run.proofs.Taken.{text_taken}
use Rattle.judge_run.proofs.read.read_text.Goals as goal

pub returns-clause-last : goal.returns-clause-last
returns-clause-last g c = λ ok. subst (λ o. TakesText o (g.F.Shelf.left c.read_prefix.new.shelf)) c.in_ok-begin.ensures.begun (text_taken _ _ _ c.read_prefix.ensures.taken ok)
