-- The line by its pieces.
use Rattle.std.proofs.Common.{◌∙◌, List, ℕ, length, decimal, ap, subst}
use Rattle.sat_budget.specs.Budgets.{BudgetView}
use Rattle.smt_session.specs.Sessions.{execution_meant, Delivers}
use Rattle.smt_session.proofs.Delivering.{delivered}
use Rattle.world_io.specs.Writing.{NotSent}
use Rattle.smt_top.proofs.ScriptLines.{letters_are, line_is, delivers_failed}
use Rattle.smt_top.proofs.generated.gen_line.Goals as goal

pub returns : goal.returns
returns g c = λ s d represents answer.
    let r = c.requires.answered in
    let word = c.letters.ensures ∙ letters_are (execution_meant c.execution_mode.result) r.0 s d (c.execution_mode.ensures r.0 r.1) r.2 (c.execution_mode.ensures s represents) answer in
    let learned = c.as_bytes-2.ensures.value ∙ c.format-2.ensures.text ∙ ap decimal (c.learnt_len.ensures ∙ ap (λ (b : BudgetView). length b.learned) c.budget-budget.ensures.budget) in
    let pivots = c.as_bytes-3.ensures.value ∙ c.format-3.ensures.text ∙ ap decimal (c.exchanged_len.ensures ∙ ap (λ (b : BudgetView). length b.exchanges) c.budget-budget.ensures.budget) in
    subst (λ (line : List ℕ). Delivers line c.flush.result (g.K.Sink.state c.args.out.now) (g.K.Sink.state c.flush.new.self))
    (line_is c.args.n d.found _ _ c.args.bytes _ _ _ _ _ (c.as_bytes.ensures.value ∙ c.format.ensures.text) word learned pivots (c.as_bytes-4.ensures.value ∙ c.format-4.ensures.text))
    (delivered _ c.flush.result _ _ _ c.in_ok-write_pieces.ensures c.flush.ensures)

pub returns-in_err-write_pieces : goal.returns-in_err-write_pieces
returns-in_err-write_pieces g c = λ s d represents answer.
    let r = c.requires.answered in
    let word = c.letters.ensures ∙ letters_are (execution_meant c.execution_mode.result) r.0 s d (c.execution_mode.ensures r.0 r.1) r.2 (c.execution_mode.ensures s represents) answer in
    let learned = c.as_bytes-2.ensures.value ∙ c.format-2.ensures.text ∙ ap decimal (c.learnt_len.ensures ∙ ap (λ (b : BudgetView). length b.learned) c.budget-budget.ensures.budget) in
    let pivots = c.as_bytes-3.ensures.value ∙ c.format-3.ensures.text ∙ ap decimal (c.exchanged_len.ensures ∙ ap (λ (b : BudgetView). length b.exchanges) c.budget-budget.ensures.budget) in
    delivers_failed _ c.from_residual.result _ _ c.from_residual.ensures.0
    (subst (λ (line : List ℕ). NotSent line (g.K.Sink.state c.args.out.now) (g.K.Sink.state c.write_pieces.new.out))
    (line_is c.args.n d.found _ _ c.args.bytes _ _ _ _ _ (c.as_bytes.ensures.value ∙ c.format.ensures.text) word learned pivots (c.as_bytes-4.ensures.value ∙ c.format-4.ensures.text))
    c.in_err-write_pieces.ensures)
