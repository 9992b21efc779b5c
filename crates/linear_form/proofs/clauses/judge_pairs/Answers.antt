-- That the clause is judged by its numbers.
use Rattle.std.proofs.Common.{List, Some, subst}
use Rattle.spec_arithmetic.specs.Contradictions.{judged_pairs}
use Rattle.ratio128.specs.declared.ratio.Ratio.{Ratio}
use Rattle.linear_form.specs.declared.literals.Negation.{Negation}
use Rattle.linear_form.specs.Sums.{JudgesSum}
use Rattle.linear_form.specs.Clauses.{pairs_meant, numbered_meant, judged_numbers}
use Rattle.linear_form.proofs.SumSteps.{judges_failed}
use Rattle.linear_form.proofs.ClauseSteps.{numbers_judged, numbers_fail}
use Rattle.linear_form.proofs.clauses.judge_pairs.Goals as goal

pub returns-in_err-numbers : goal.returns-in_err-numbers
returns-in_err-numbers c =
    let ps = pairs_meant c.args.table.now c.args.pairs.now in
    let s = c.in_err-numbers.field-0.0 in
    judges_failed (judged_pairs (Some ps)) c.from_residual.result s c.from_residual.ensures.1 (numbers_fail ps s (c.in_err-numbers.ensures.comes c.args.table.now))

pub returns : goal.returns
returns c =
    let t = c.args.table.now in
    numbers_judged (pairs_meant t c.args.pairs.now) (numbered_meant t c.in_ok-numbers.numbers.items) c.judge_numbers.result (c.in_ok-numbers.ensures.comes t)
    (subst (λ (ns : List (Negation × Ratio)). JudgesSum (judged_numbers (numbered_meant t ns)) c.judge_numbers.result) c.as_slice.ensures.value c.judge_numbers.ensures)
