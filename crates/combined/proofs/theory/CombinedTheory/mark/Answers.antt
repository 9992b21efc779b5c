-- Both go with the table, also where the first goes back.
use Rattle.std.proofs.Common.{rules, ◌∙◌, ℕ, List, ap, subst}
use Rattle.spec_sorts.specs.Terms.{Term}
use Rattle.term_core.specs.Tables.{TableView}
use Rattle.congruence_relation.specs.Relation.{AreFactsOf}
use Rattle.simplex.specs.Checks.{Suits}
use Rattle.simplex.specs.Coming.{CameBy}
use Rattle.proof_log.specs.Theories.{gone_back}
use Rattle.congruence.specs.Views.{theory_of}
use Rattle.combined.specs.Views.{CombinedView}
use Rattle.combined.proofs.Marks.{back_again}
use Rattle.combined.proofs.theory.CombinedTheory.mark.Goals as goal

pub returns-in-Err : goal.returns-in-Err
returns-in-Err c = record {
  keeps = record {
    with = subst (λ (v : CombinedView). (t : TableView) → AreFactsOf t v.congruence.now.facts × Suits v.simplex t → AreFactsOf t c.back.new.self.now.facts × Suits c.mark-2.new.self t)
        c.self.view_is (λ t h. (c.back.ensures.with t (c.mark.ensures.with t h.0), c.mark-2.ensures.keeps.with t h.1));
    came = subst (λ (v : CombinedView). (t : TableView) (ts : List Term) (n : ℕ) (es : List (ℕ × ℕ)) → CameBy t ts n es v.simplex → CameBy t ts n es c.mark-2.new.self)
        c.self.view_is c.mark-2.ensures.keeps.came;
  };
  marks = c.back.ensures.back ∙ ap (gone_back 1) c.in_ok-mark.ensures.marks ∙ back_again (theory_of c.self.inside.congruence)
      ∙ ap (λ (v : CombinedView). theory_of v.congruence) c.self.view_is;
}

pub returns : goal.returns
returns c = record {
  keeps = record {
    with = subst (λ (v : CombinedView). (t : TableView) → AreFactsOf t v.congruence.now.facts × Suits v.simplex t → AreFactsOf t c.mark.new.self.now.facts × Suits c.mark-2.new.self t)
        c.self.view_is (λ t h. (c.mark.ensures.with t h.0, c.mark-2.ensures.keeps.with t h.1));
    came = subst (λ (v : CombinedView). (t : TableView) (ts : List Term) (n : ℕ) (es : List (ℕ × ℕ)) → CameBy t ts n es v.simplex → CameBy t ts n es c.mark-2.new.self)
        c.self.view_is c.mark-2.ensures.keeps.came;
  };
  marks = search rules;
}
