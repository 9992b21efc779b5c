-- The table is cut back, and the conjunction shows each expression.
use Rattle.std.proofs.Common.{◌≡◌, List, None, ◌∙◌, subst}
use Rattle.term_core.specs.declared.ids.TermId.{TermId}
use Rattle.assertion_stack.proofs.Back.{table_back}
use Rattle.model_judge.specs.Untrue.{conjunction_at, IsTrueAt, first_untrue_at}
use Rattle.model_judge.proofs.AllTrue.{conjunction_true, shown_by}
use Rattle.model_judge.proofs.conjunctions.are_true.Goals as goal

pub returns-clause-same : goal.returns-clause-same
returns-clause-same c = table_back c.args.table.now c.is_true-found.new.table c.cut.new.self c.len-len.result c.is_true-found.ensures.keeps c.len-len.ensures c.cut.ensures.terms c.cut.ensures.declared

pub returns-clause-shown : goal.returns-clause-shown
returns-clause-shown c i h =
    let t = c.args.table.now in
    let es = c.args.expressions.now in
    let listed = c.deref.ensures.value ∙ c.in_ok-terms.ensures in
    shown_by c.is_true-found.result (IsTrueAt i (conjunction_at t c.deref.result.now)) (first_untrue_at t i es ≡ None) (c.is_true-found.ensures.shown i h)
    (λ p. conjunction_true t i es (subst (λ (ids : List TermId). IsTrueAt i (conjunction_at t ids)) listed p))
