-- That the edges of the forest represent the facts.
use Rattle.std.proofs.Common.{List, sym, subst}
use Rattle.explain_forest.specs.declared.types.Edge.{Edge}
use Rattle.congruence_relation.specs.Relation.{Facts, AreFactsOf}
use Rattle.congruence_relation.specs.Edges.{IsConflict}
use Rattle.congruence_explain.specs.Basis.{IsBasis}
use Rattle.congruence.proofs.Checking.{basis}
use Rattle.congruence.proofs.theory.explain_conflict.Goals as goal

pub explain-requires : goal.explain-requires
explain-requires g c =
    let t = c.args.table.now in
    let w = c.args.closure.now in
    let forest = c.forest.result.now.now in
    let facts = c.requires.0 in
    let represents = basis t w c.is_right.ensures c.truths.result forest c.requires.1.0 (subst (AreFactsOf t) facts c.requires.1.1.0) c.truths.ensures c.forest.ensures.edges c.forest.ensures.terms in (
      c.requires.1.1.1.0,
      (
        subst (λ (f : Facts). IsBasis t c.truths.result forest f) (sym facts) represents,
        subst (λ (es : List Edge). IsConflict g.facts es c.args.conflict) (sym c.forest.ensures.edges) c.requires.1.1.1.1,
      ),
    )
