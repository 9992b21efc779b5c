-- What was written waits no longer, or a prefix of it was passed on.
use Rattle.std.proofs.Common.{◌∙◌, refl, sym}
use Rattle.script_run.specs.declared.status.Status.TheVariants.{Memory, ReadFault}
use Rattle.smt_top.specs.Arguments.{asked}
use Rattle.smt_top.proofs.Buffers.{ends_kept, ends_cut, still_found, is_no_other}
use Rattle.smt_top.proofs.buffered.run_buffered.Goals as goal

pub returns-in-Ok-clause-ends : goal.returns-in-Ok-clause-ends
returns-in-Ok-clause-ends g c =
    ends_kept (g.F.Shelf.holds c.args.shelf.now) _ _ _ c.in-Ok.ensures c.run-status.result (asked c.args.arguments.now) (sym c.is_answered.ensures ∙ c.if-not-is_answered.false) c.run-status.ensures.ends

pub returns-in-Err-clause-ends : goal.returns-in-Err-clause-ends
returns-in-Err-clause-ends g c =
    ends_cut (g.F.Shelf.holds c.args.shelf.now) _ _ _ c.in-Err.ensures c.run-status.result (asked c.args.arguments.now) (sym c.is_answered.ensures ∙ c.if-not-is_answered.false) c.run-status.ensures.ends

pub returns-in-Ok-clause-passed_on : goal.returns-in-Ok-clause-passed_on
returns-in-Ok-clause-passed_on g c = λ _. c.in-Ok.ensures.emptied

pub returns-in-Ok-clause-found : goal.returns-in-Ok-clause-found
returns-in-Ok-clause-found g c = λ known. still_found _ c.run-status.result _ _ _ _ (sym c.is_answered.ensures ∙ c.if-not-is_answered.false) (c.run-status.ensures.found known)

pub returns-in-Err-clause-found : goal.returns-in-Err-clause-found
returns-in-Err-clause-found g c = λ known. still_found _ c.run-status.result _ _ _ _ (sym c.is_answered.ensures ∙ c.if-not-is_answered.false) (c.run-status.ensures.found known)

pub returns-in-Err-clause-order : goal.returns-in-Err-clause-order
returns-in-Err-clause-order g c = λ _ _.
    let e = sym c.is_answered.ensures ∙ c.if-not-is_answered.false in
    c.run-status.ensures.order (is_no_other _ Memory e refl) (is_no_other _ ReadFault e refl)

pub returns-in-Ok-clause-so_far : goal.returns-in-Ok-clause-so_far
returns-in-Ok-clause-so_far g c = λ e. absurd (is_no_other c.run-status.result ReadFault (sym c.is_answered.ensures ∙ c.if-not-is_answered.false) refl e)
