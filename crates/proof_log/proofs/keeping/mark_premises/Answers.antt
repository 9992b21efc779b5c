-- One premise after the other.
use Rattle.std.proofs.Common.{◌≡◌, ◌<◌, List, length, All, sym, ap, ◌∙◌, subst}
use Rattle.proof_log.specs.Logs.{premises_in}
use Rattle.proof_log.specs.Entries.{logged_of}
use Rattle.proof_log.specs.declared.premises.StepId.{StepId}
use Rattle.proof_log.specs.Keeping.{step_of}
use Rattle.proof_log.proofs.Marks.{marking_more}
use Rattle.proof_log.proofs.keeping.mark_premises.Goals as goal

pub premises-preserved : goal.premises-preserved
premises-preserved c =
    let ps = c.as_slice-p-items.result.now in
    let same : premises_in (logged_of c.args.entry.now) ≡ ps = ap (λ e. premises_in (logged_of e)) c.in-Stepped.is ∙ sym c.as_slice-p-items.ensures in
    let there : All (λ (p : StepId). p.0 < length c.args.marks.now.items) ps = subst (λ (qs : List StepId). All (λ (p : StepId). p.0 < length c.args.marks.now.items) qs) same c.requires.there in
    marking_more c.args.marks.now.items c.premises.marks.items c.mark_one.new.marks.items c.args.from c.premises.p-index (step_of 0) ps c.premises-test.true there c.premises.invariant c.mark_one.ensures
