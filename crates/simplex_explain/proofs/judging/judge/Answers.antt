-- The arguments are the weights.
use Rattle.std.proofs.Common.{List, ap, ◌∙◌, subst}
use Rattle.spec_arithmetic.specs.Contradictions.{Coefficient, la_generic}
use Rattle.linear_form.specs.Coefficients.{coefficients_meant}
use Rattle.linear_form.specs.Sums.{JudgesSum}
use Rattle.term_core.specs.Tables.{clause_at}
use Rattle.simplex_explain.proofs.Judged.{given_arguments}
use Rattle.simplex_explain.proofs.judging.judge.Goals as goal

pub returns : goal.returns
returns c =
    subst (λ (cs : List Coefficient). JudgesSum (la_generic (clause_at c.args.table.now c.args.clause.now) cs) c.la_generic.result)
    (ap coefficients_meant (c.deref.ensures.value ∙ c.in_ok-arguments.ensures) ∙ given_arguments c.args.reasons.now) c.la_generic.ensures.exact
