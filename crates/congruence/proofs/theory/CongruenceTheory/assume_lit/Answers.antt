-- A literal more is held.
use Rattle.std.proofs.Common.{rules, sym, subst}
use Rattle.std.specs.Prelude.{Contains}
use Rattle.term_core.specs.Tables.{TableView}
use Rattle.congruence_relation.specs.Relation.{AreFactsOf}
use Rattle.congruence_closure.specs.Closure.{ClosureState, ClosureView}
use Rattle.congruence.specs.Views.{theory_of}
use Rattle.congruence.proofs.Terms.{listed_of, more_held}
use Rattle.congruence.proofs.theory.CongruenceTheory.assume_lit.Goals as goal

pub returns : goal.returns
returns c = record {
  with = subst (λ (v : ClosureView). Contains (theory_of v).watched c.args.lit.term → (t : TableView) → AreFactsOf t v.now.facts → AreFactsOf t c.hold.new.self.now.facts) c.self.view_is
      (λ watched t h.
      let x = listed_of c.self.inside.closure.now.facts c.args.lit.term watched in
      subst (λ (s : ClosureState). AreFactsOf t s.facts) (sym c.hold.ensures.now) (more_held t c.self.inside.closure.now.facts c.args.lit x.0 h x.1 x.2))
      c.requires.watched;
  came = λ t ts n es with came. came;
  holds = search rules;
}
