-- The marks are handed back as they were made.
use Rattle.std.proofs.Common.{sym, ◌∙◌, subst}
use Rattle.spec_sorts.specs.Subterms.{has_term}
use Rattle.spec_proof_texts.specs.Plans.{terms_planned}
use Rattle.proof_log.specs.Logs.{derivation_in}
use Rattle.alethe_writer.specs.Assumes.{SaysWhether}
use Rattle.alethe_writer.proofs.Closing.{written_back}
use Rattle.alethe_writer.proofs.assumes.assumed_of.Goals as goal

pub returns : goal.returns
returns c =
    let t = c.args.table.now in
    subst (SaysWhether t (has_term (terms_planned (derivation_in t c.args.log.now) c.args.plan.now.inferences)))
    (sym (written_back c.mark_assumed.new.marks c.in_ok-marks.marks.items c.in_ok-marks.marks.len (c.in_ok-marks.ensures.len ∙ c.len.ensures ∙ sym c.mark_assumed.ensures.as_many))) c.mark_assumed.ensures
