-- What it means is as it was, and what came are lemmas.
use Rattle.std.proofs.Common.{◌≡◌, sym, ◌∙◌, ap, subst}
use Rattle.proof_log.specs.Theories.{derived, IsTheoryOver, terms_watched, DerivesLemmas}
use Rattle.congruence_relation.specs.Relation.{AreFactsOf}
use Rattle.congruence_closure.specs.Closure.{ClosureView}
use Rattle.congruence.specs.Views.{theory_of}
use Rattle.congruence.proofs.Implied.{implies_lemmas}
use Rattle.congruence.proofs.theory.CongruenceTheory.implied.Goals as goal

pub implied_steps-requires : goal.implied_steps-requires
implied_steps-requires c =
    let t = c.args.table.now in
    record {
      over = subst (λ (v : ClosureView). IsTheoryOver t (theory_of v)) (sym c.self.view_is) c.requires.over;
      with = subst (λ (v : ClosureView). AreFactsOf t v.now.facts) (sym c.self.view_is) c.requires.with;
      log = c.requires.log;
      held = subst (λ (v : ClosureView). (theory_of v).held ≡ c.args.trail.now.literals) (sym c.self.view_is) c.requires.held;
    }

pub returns : goal.returns
returns c =
    let old = derived c.args.table.now c.args.log.now in
    let new = derived c.implied_steps.new.table c.implied_steps.new.log in
    let came = c.implied_steps.ensures in
    let derives = subst (λ (x : ClosureView). DerivesLemmas (terms_watched old.table (theory_of x)) old new) c.self.view_is came.derives in
    implies_lemmas c.args.self.now c.implied_steps.new.closure (came.now ∙ ap (λ (x : ClosureView). x.now) c.self.view_is) (came.marks ∙ ap (λ (x : ClosureView). x.marks) c.self.view_is) old new derives c.requires.with c.implied_steps.result came.steps
