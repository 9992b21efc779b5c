-- Both go with the table.
use Rattle.std.proofs.Common.{rules, ℕ, List, subst}
use Rattle.spec_sorts.specs.Terms.{Term}
use Rattle.spec_causes.specs.Counts.{counted}
use Rattle.term_core.specs.Tables.{TableView, term_at}
use Rattle.congruence_relation.specs.Relation.{AreFactsOf}
use Rattle.simplex.specs.Checks.{Suits}
use Rattle.simplex.specs.Coming.{CameBy}
use Rattle.combined.specs.Views.{CombinedView}
use Rattle.combined.proofs.theory.CombinedTheory.assume_lit.Goals as goal

pub returns : goal.returns
returns c = record {
  with = subst (λ (v : CombinedView). (t : TableView) → AreFactsOf t v.congruence.now.facts × Suits v.simplex t → AreFactsOf t c.assume_lit.new.self.now.facts × Suits c.assume_lit-2.new.self t)
      c.self.view_is (λ t h. (c.assume_lit.ensures.with t h.0, c.assume_lit-2.ensures.with t h.1));
  came = subst (λ (v : CombinedView). (t : TableView) (ts : List Term) (n : ℕ) (es : List (ℕ × ℕ)) → AreFactsOf t v.congruence.now.facts × Suits v.simplex t → CameBy t ts n es v.simplex
      → CameBy t ts (counted (term_at t c.args.lit.term) n) es c.assume_lit-2.new.self)
      c.self.view_is (λ t ts n es with came. c.assume_lit-2.ensures.came t ts n es with.1 came);
  holds = search rules;
}
