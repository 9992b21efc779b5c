-- Equal terms, by numbers and over a table.
use Rattle.std.proofs.Common.{◌≡◌, ◌↔◌, true, List, map, sym, subst}
use Rattle.spec_sorts.specs.Terms.{Term}
use Rattle.spec_equality.specs.Congruence.{IsCongruent as AreEqual}
use Rattle.term_core.specs.Tables.{term_at, literal_at}
use Rattle.congruence_relation.specs.Relation.{IsCongruentIn}
use Rattle.congruence_closure.specs.Closure.{ClosureView}
use Rattle.congruence.proofs.Terms.{watched_are_listed}
use Rattle.congruence.proofs.congruence.Congruence.same.Goals as goal

pub returns-clause-sound : goal.returns-clause-sound
returns-clause-sound c t different declared of_table a_there b_there same =
    let v = c.args.self.now in
    subst (λ (ts : List Term). AreEqual ts (map (literal_at t) v.now.facts.held) (term_at t c.args.a) (term_at t c.args.b)) (sym (watched_are_listed t v))
    ((c.numbers_and_terms_agree.ensures t v.now.facts different declared of_table c.args.a c.args.b a_there b_there).0
    (subst (λ (w : ClosureView). IsCongruentIn w.now.facts c.args.a c.args.b) c.self.view_is (c.same.ensures.sound same)))

pub returns-clause-exact : goal.returns-clause-exact
returns-clause-exact c t different declared of_table a_there b_there saturated =
    let v = c.args.self.now in
    let agree = c.numbers_and_terms_agree.ensures t v.now.facts different declared of_table c.args.a c.args.b a_there b_there in
    let exact : (c.same.result ≡ true) ↔ IsCongruentIn v.now.facts c.args.a c.args.b = subst (λ (w : ClosureView). w.now.saturated ≡ true → (c.same.result ≡ true) ↔ IsCongruentIn w.now.facts c.args.a c.args.b) c.self.view_is c.same.ensures.exact saturated in (
      returns-clause-sound c t different declared of_table a_there b_there,
      λ equal. exact.1 (agree.1 (subst (λ (ts : List Term). AreEqual ts (map (literal_at t) v.now.facts.held) (term_at t c.args.a) (term_at t c.args.b)) (watched_are_listed t v) equal)),
    )
