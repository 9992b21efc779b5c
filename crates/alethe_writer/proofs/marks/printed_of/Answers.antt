-- The marks are handed back as they were made.
use Rattle.std.proofs.Common.{sym, ◌∙◌, subst}
use Rattle.spec_proof_texts.specs.Plans.{ArePrinted}
use Rattle.proof_log.specs.Logs.{derivation_in}
use Rattle.alethe_writer.proofs.Closing.{written_back}
use Rattle.alethe_writer.proofs.marks.printed_of.Goals as goal

pub returns-clause-printed : goal.returns-clause-printed
returns-clause-printed c = λ n are. subst (ArePrinted c.args.table.now.terms (derivation_in c.args.table.now c.args.log.now) n) (sym (written_back c.mark_printed.new.marks c.in_ok-marks.marks.items c.in_ok-marks.marks.len (sym (c.mark_printed.ensures.as_many ∙ c.deref_mut.ensures.len)))) (c.mark_printed.ensures.printed n are)
