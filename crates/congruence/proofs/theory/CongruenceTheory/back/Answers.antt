-- What is so after going back.
use Rattle.std.proofs.Common.{◌≡◌, ◌≤◌, length, subst}
use Rattle.term_core.specs.Tables.{TableView}
use Rattle.proof_log.specs.Theories.{gone_back}
use Rattle.congruence_relation.specs.Relation.{AreFactsOf}
use Rattle.congruence_closure.specs.Closure.{ClosureView}
use Rattle.congruence.specs.Views.{theory_of}
use Rattle.congruence.proofs.Views.{marks_there, back_front, went_back}
use Rattle.congruence.proofs.Terms.{front_of}
use Rattle.congruence.proofs.theory.CongruenceTheory.back.Goals as goal

pub returns-clause-with : goal.returns-clause-with
returns-clause-with c = subst (λ (v : ClosureView). c.args.marks ≤ length (theory_of v).marks → (t : TableView) → AreFactsOf t v.now.facts → AreFactsOf t c.back.new.self.now.facts) c.self.view_is
    (λ there t h. front_of t c.self.inside.closure.now.facts c.back.new.self.now.facts h (back_front c.self.inside.closure c.back.new.self c.args.marks (marks_there c.self.inside.closure c.args.marks there) c.back.ensures.now c.marks_are_prefixes.ensures) c.is_right.ensures.order)
    c.requires.there

pub returns-clause-back : goal.returns-clause-back
returns-clause-back c = subst (λ (v : ClosureView). c.args.marks ≤ length (theory_of v).marks → theory_of c.back.new.self ≡ gone_back c.args.marks (theory_of v)) c.self.view_is
    (λ there. went_back c.self.inside.closure c.back.new.self c.args.marks (marks_there c.self.inside.closure c.args.marks there) c.back.ensures.now c.back.ensures.marks c.marks_are_prefixes.ensures)
    c.requires.there
