-- That the clause is judged by its pairs, or has none.
use Rattle.std.proofs.Common.{List, Option, Some, sym, ap, subst}
use Rattle.spec_arithmetic.specs.Contradictions as sums
use Rattle.spec_arithmetic.specs.Contradictions.{la_generic, judged_pairs}
use Rattle.linear_form.specs.declared.coeff.Coeff.{Coeff}
use Rattle.linear_form.specs.declared.literals.Negation.{Negation}
use Rattle.linear_form.specs.Sums.{JudgesSum}
use Rattle.linear_form.specs.Clauses.{pairs_meant}
use Rattle.linear_form.proofs.clauses.la_generic.Goals as goal

pub returns-in-Some : goal.returns-in-Some
unfolding la_generic
returns-in-Some c =
    let t = c.args.table.now in
    let means = rw c.in-Some.is at c.in_ok-pairs.ensures.means in
    record {
      exact = subst (λ (o : Option (List (sums.Negation × sums.Coefficient))). JudgesSum (judged_pairs o) c.judge_pairs.result) (sym means)
          (subst (λ (ps : List (Negation × Coeff)). JudgesSum (judged_pairs (Some (pairs_meant t ps))) c.judge_pairs.result) c.as_slice.ensures.value c.judge_pairs.ensures);
    }

pub returns-in-None : goal.returns-in-None
unfolding la_generic
returns-in-None c = record { exact = ap judged_pairs (rw c.in-None.is at c.in_ok-pairs.ensures.means) }
