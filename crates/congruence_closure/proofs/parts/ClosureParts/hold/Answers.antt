-- What the parts keep is kept with one literal more.
use Rattle.std.proofs.Common.{◌≤◌, List, length, sym, subst, arith}
use Rattle.std.specs.Prelude.{Contains}
use Rattle.term_core.specs.declared.ids.Lit.{Lit}
use Rattle.congruence_closure.specs.Listed.{IsListed}
use Rattle.congruence_closure.specs.State.{PartsState, PartsView, PartsFit}
use Rattle.congruence_closure.specs.Kept.{state_of}
use Rattle.congruence_closure.proofs.Growing.{kept_held}
use Rattle.congruence_closure.proofs.Terms.{listed_low}
use Rattle.congruence_closure.proofs.parts.ClosureParts.hold.Goals as goal

pub invariant_of-self : goal.invariant_of-self
invariant_of-self c =
    let s : PartsState = state_of c.self.inside in
    let listed = subst (λ (v : PartsView). IsListed v.now.facts.listed c.args.lit.term) (sym c.self.view_is) c.requires.listed in
    let absent = subst (λ (v : PartsView). Contains v.now.facts.held c.args.lit → ⊥) (sym c.self.view_is) c.requires.new in
    let kept = kept_held (state_of c.self.inside) c.args.lit c.self.invariant.kept listed absent in
    record {
      kept = subst (λ (held : List Lit). PartsFit (record {
        facts = record { listed = c.self.inside.listing; truths = c.self.inside.truths; held = held };
        numbers = c.self.inside.classes.numbers;
        edges = c.self.inside.forest.now.edges;
        keys = c.self.inside.keys;
        left = (state_of c.self.inside).left;
      })) (sym c.hold.ensures.held) kept;
      terms = c.self.invariant.terms;
      room = subst (λ n. length c.self.inside.classes.numbers ≤ n) (sym c.hold.ensures.terms) c.self.invariant.room;
      next = c.self.invariant.next;
    }

pub hold-requires-clause-term : goal.hold-requires-clause-term
hold-requires-clause-term c =
    let listed = subst (λ (v : PartsView). IsListed v.now.facts.listed c.args.lit.term) (sym c.self.view_is) c.requires.listed in
    omega (arith, listed_low (state_of c.self.inside) c.self.invariant.kept c.args.lit.term listed, c.self.invariant.room)
