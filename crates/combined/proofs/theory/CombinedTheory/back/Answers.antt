-- Both go with the table.
use Rattle.std.proofs.Common.{rules, ℕ, List, subst}
use Rattle.spec_sorts.specs.Terms.{Term}
use Rattle.term_core.specs.Tables.{TableView}
use Rattle.congruence_relation.specs.Relation.{AreFactsOf}
use Rattle.simplex.specs.Checks.{Suits}
use Rattle.simplex.specs.Coming.{CameBy}
use Rattle.combined.specs.Views.{CombinedView}
use Rattle.combined.proofs.theory.CombinedTheory.back.Goals as goal

pub returns : goal.returns
returns c = record {
  keeps = record {
    with = subst (λ (v : CombinedView). (t : TableView) → AreFactsOf t v.congruence.now.facts × Suits v.simplex t → AreFactsOf t c.back.new.self.now.facts × Suits c.back-2.new.self t)
        c.self.view_is (λ t h. (c.back.ensures.with t h.0, c.back-2.ensures.keeps.with t h.1));
    came = subst (λ (v : CombinedView). (t : TableView) (ts : List Term) (n : ℕ) (es : List (ℕ × ℕ)) → CameBy t ts n es v.simplex → CameBy t ts n es c.back-2.new.self)
        c.self.view_is c.back-2.ensures.keeps.came;
  };
  back = search rules;
}
