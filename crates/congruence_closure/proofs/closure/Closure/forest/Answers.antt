-- What the parts name is below their count of terms.
use Rattle.std.proofs.Common.{sym, subst, arith}
use Rattle.explain_forest.specs.Forest.{ForestState}
use Rattle.congruence_closure.specs.Closure.{ClosureView, AreTerms}
use Rattle.congruence_closure.proofs.closure.Closure.forest.Goals as goal

pub returns-clause-terms : goal.returns-clause-terms
returns-clause-terms c =
    let kept = c.are_kept.ensures.kept in
    let few = c.are_kept.ensures.terms in
    subst (λ (f : ForestState). AreTerms c.args.self.now f.terms) (sym c.forest.ensures)
    (subst (λ (v : ClosureView). AreTerms v c.self.inside.parts.terms) c.self.view_is (record {
      true_in = omega (arith, kept.there.true_in, few);
      false_in = omega (arith, kept.there.false_in, few);
      terms = λ k d lt. omega (arith, kept.there.terms k d lt, few);
      ends = λ k d lt. (omega (arith, (kept.joint.ends k d lt).0, few), omega (arith, (kept.joint.ends k d lt).1, few));
    }))
