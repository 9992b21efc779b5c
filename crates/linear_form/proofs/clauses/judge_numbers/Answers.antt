-- That the clause is judged by its parts.
use Rattle.std.proofs.Common.{List, subst}
use Rattle.spec_arithmetic.specs.Contradictions.{judged_parts}
use Rattle.linear_form.specs.declared.sums.WeightedForm.{WeightedForm}
use Rattle.linear_form.specs.Sums.{parts_meant, HaveVariablesOf, JudgesSum}
use Rattle.linear_form.specs.Clauses.{numbered_meant, judged_numbers}
use Rattle.linear_form.proofs.SumSteps.{judges_failed}
use Rattle.linear_form.proofs.ClauseSteps.{parts_judged, parts_fail}
use Rattle.linear_form.proofs.clauses.judge_numbers.Goals as goal

pub returns-in_err-parts : goal.returns-in_err-parts
returns-in_err-parts c =
    let ns = numbered_meant c.args.table.now c.args.numbers.now in
    let s = c.in_err-parts.field-0.0 in
    judges_failed (judged_numbers ns) c.from_residual.result s c.from_residual.ensures.1 (parts_fail ns s c.in_err-parts.ensures.comes)

pub returns : goal.returns
returns c =
    let t = c.args.table.now in
    parts_judged (numbered_meant t c.args.numbers.now) (parts_meant t c.in_ok-parts.parts.items) c.judge_parts.result c.in_ok-parts.ensures.comes
    (subst (λ (ps : List WeightedForm). HaveVariablesOf t ps → JudgesSum (judged_parts (parts_meant t ps)) c.judge_parts.result) c.as_slice.ensures.value (c.judge_parts.ensures t c.ids_are_unique.ensures) c.in_ok-parts.ensures.there)
