-- The verdict by what the file says and what the check asks about.
use Rattle.std.proofs.Common.{ℕ, ◌≤◌, List, length, sym, ap, ◌∙◌, subst}
use Rattle.spec_commands.specs.Stack.{signature_of}
use Rattle.spec_model_files.specs.Definitions.{interpretation_of}
use Rattle.term_core.specs.Tables.{AreIn}
use Rattle.script_standing.specs.declared.standing.Expression.{Expression}
use Rattle.script_standing.specs.Standings.{terms_of}
use Rattle.model_judge.specs.Untrue.{first_untrue_at}
use Rattle.model_judge.specs.Verdicts.{Refuses}
use Rattle.model_judge.proofs.Judged.{not_read, valid, untrue_inside, untrue_told}
use Rattle.model_judge.proofs.judging.judge_standing.Goals as goal

pub read-requires : goal.read-requires
read-requires c = record { known = (signature_of c.requires.1.check.stack, c.requires.1.scope) }

pub first_untrue-requires-clause-there : goal.first_untrue-requires-clause-there
first_untrue-requires-clause-there c = subst (λ (es : List Expression). AreIn c.args.stands.table (terms_of es)) (sym c.deref.ensures.value) c.requires.1.inside

pub first_untrue-requires-clause-interprets : goal.first_untrue-requires-clause-interprets
first_untrue-requires-clause-interprets c = (c.in-Ok.ensures (signature_of c.requires.1.check.stack) c.requires.1.scope).tables

pub refused-requires : goal.refused-requires
refused-requires c =
    let l = c.requires.1 in
    let g = signature_of l.check.stack in
    let r = c.in-Ok.ensures g l.scope in
    let i = interpretation_of g r.definitions in
    let h = rw c.in-Ok-Some.field-0-is at (c.in-Ok-Some.ensures i r.represents) ∙ ap (first_untrue_at c.args.stands.table i) c.deref.ensures.value in
    subst (λ (text : List ℕ). c.in-Ok-Some.found.at ≤ length text) (sym c.faulty_text-text.ensures)
    (untrue_inside c.args.script.now c.requires.0 c.args.model.now c.args.stands l c.in-Ok.interp r c.model_verdicts_are_in_their_text.ensures c.in-Ok-Some.found h)

pub returns-in-Ok-None : goal.returns-in-Ok-None
returns-in-Ok-None c k l =
    let g = signature_of l.check.stack in
    let r = c.in-Ok.ensures g l.scope in
    let i = interpretation_of g r.definitions in
    valid c.args.script.now k c.args.model.now c.args.stands l c.in-Ok.interp r (rw c.in-Ok-None.field-0-is at (c.in-Ok-None.ensures i r.represents) ∙ ap (first_untrue_at c.args.stands.table i) c.deref.ensures.value)

pub returns-in-Ok-Some : goal.returns-in-Ok-Some
returns-in-Ok-Some c k l =
    let g = signature_of l.check.stack in
    let r = c.in-Ok.ensures g l.scope in
    let i = interpretation_of g r.definitions in
    let h = rw c.in-Ok-Some.field-0-is at (c.in-Ok-Some.ensures i r.represents) ∙ ap (first_untrue_at c.args.stands.table i) c.deref.ensures.value in
    untrue_told c.args.script.now k c.args.model.now c.args.stands l c.in-Ok.interp r c.in-Ok-Some.found c.refused.result h
    (subst (λ (text : List ℕ). Refuses text c.in-Ok-Some.found.at c.in-Ok-Some.found.kind c.refused.result) c.faulty_text-text.ensures c.refused.ensures)

pub returns : goal.returns
returns c k l = not_read c.args.script.now k c.args.model.now c.args.stands l c.faults_are_in_their_file.ensures c.in-Err.stop (c.in-Err.ensures (signature_of l.check.stack) l.scope)
