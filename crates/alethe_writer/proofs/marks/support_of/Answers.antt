-- The marks are handed back as they were made.
use Rattle.std.proofs.Common.{sym, subst, arith}
use Rattle.spec_proof_texts.specs.Plans.{IsSupport}
use Rattle.proof_log.specs.Logs.{derivation_in}
use Rattle.alethe_writer.proofs.Closing.{written_back}
use Rattle.alethe_writer.proofs.marks.support_of.Goals as goal

pub returns : goal.returns
returns c = λ t. subst (IsSupport (derivation_in t c.args.log.now) c.args.step.0) (sym (written_back c.mark_support.new.marks c.in_ok-marks.marks.items c.in_ok-marks.marks.len (omega (arith, c.in_ok-marks.ensures.len, (c.mark_support.ensures t).up_to)))) (c.mark_support.ensures t)
