-- What was written is the answer of the one check, and its evidence.
use Rattle.std.proofs.Common.{ℕ, List, ◌≤◌, ◌+◌, ◌∙◌, length, drop, sym, ap, subst}
use Rattle.smt_session.specs.Sessions.{execution_meant}
use Rattle.smt_top.proofs.ScriptLines.{answered_by, start_within, solves, judged}
use Rattle.smt_top.proofs.generated.solve.Goals as goal

pub after_line-evidence-requires : goal.after_line-evidence-requires
after_line-evidence-requires c =
    let i = c.in-Ok-answer_all.ensures in
    let text = c.new.ensures ∙ c.as_slice.ensures ∙ c.in-Ok.ensures in
    let mode = c.execution_mode-mode.ensures i.state i.represents in
    let some = answered_by (execution_meant c.execution_mode-mode.result) c.letters-word.result.now c.letters-word.ensures (sym c.is_empty.ensures ∙ c.if-is_empty.false) in
    subst (λ (bs : List ℕ). length c.letters-word.result.now + 1 ≤ length bs) (sym c.written.ensures)
    (start_within c.answers_say_what_is_so.ensures.whole c.args.n _ _ c.answer_all.new.session c.answer_all.new.out.written i c.requires.limits text c.execution_mode-mode.result mode some c.letters-word.result.now c.letters-word.ensures)

pub returns-in-Ok-judge-clause-solves : goal.returns-in-Ok-judge-clause-solves
returns-in-Ok-judge-clause-solves c =
    let i = c.in-Ok-answer_all.ensures in
    let text = c.new.ensures ∙ c.as_slice.ensures ∙ c.in-Ok.ensures in
    let mode = c.execution_mode-mode.ensures i.state i.represents in
    let some = answered_by (execution_meant c.execution_mode-mode.result) c.letters-word.result.now c.letters-word.ensures (sym c.is_empty.ensures ∙ c.if-is_empty.false) in
    let rest = c.after_line-evidence.ensures ∙ ap (drop (length c.letters-word.result.now + 1)) c.written.ensures in
    solves c.answers_say_what_is_so.ensures.whole c.args.n _ _ c.answer_all.new.session c.answer_all.new.out.written i c.requires.limits text c.execution_mode-mode.result mode some c.letters-word.result.now c.letters-word.ensures (length c.after_line-evidence.result.now) (ap length rest)

pub returns-clause-accepted : goal.returns-clause-accepted
returns-clause-accepted c =
    let i = c.in-Ok-answer_all.ensures in
    let text = c.new.ensures ∙ c.as_slice.ensures ∙ c.in-Ok.ensures in
    let mode = c.execution_mode-mode.ensures i.state i.represents in
    let some = answered_by (execution_meant c.execution_mode-mode.result) c.letters-word.result.now c.letters-word.ensures (sym c.is_empty.ensures ∙ c.if-is_empty.false) in
    let rest = c.after_line-evidence.ensures ∙ ap (drop (length c.letters-word.result.now + 1)) c.written.ensures in
    judged c.answers_say_what_is_so.ensures.whole c.args.n _ _ c.answer_all.new.session c.answer_all.new.out.written i c.requires.limits text c.execution_mode-mode.result mode some c.letters-word.result.now c.letters-word.ensures
    ℕ c.in-Err.stop c.as_slice-2.result.now c.after_line-evidence.result.now (c.as_slice-2.ensures ∙ c.in-Ok.ensures) rest c.in-Err.ensures
