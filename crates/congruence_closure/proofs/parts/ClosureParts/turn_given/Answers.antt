-- The next literal is given.
use Rattle.std.proofs.Common.{◌≡◌, ◌<◌, List, length, get_or, sym, ap, ◌∙◌, subst}
use Rattle.std.specs.Prelude.{Contains}
use Rattle.std.proofs.lemmas.List.Elements.{Contains-get_or}
use Rattle.term_core.specs.declared.ids.Lit.{Lit}
use Rattle.congruence_closure.specs.Listed.{no_lit, held_at}
use Rattle.congruence_closure.specs.State.{PartsView}
use Rattle.congruence_closure.specs.Changes.{IsGiven}
use Rattle.congruence_closure.specs.Kept.{state_of}
use Rattle.congruence_closure.proofs.Steps.{kept_given}
use Rattle.congruence_closure.proofs.parts.ClosureParts.turn_given.Goals as goal

pub give-requires : goal.give-requires
give-requires c =
    let low = subst (λ (v : PartsView). v.now.left.given < length v.now.facts.held) (sym c.self.view_is) c.requires in
    subst (λ (v : PartsView). Contains v.now.facts.held (get_or c.all-held.result.now c.self.inside.given no_lit)) c.self.view_is
    (subst (λ (xs : List Lit). Contains c.self.inside.holding.held (get_or xs c.self.inside.given no_lit)) (sym c.all-held.ensures) (Contains-get_or c.self.inside.holding.held c.self.inside.given no_lit low))

pub invariant_of-self : goal.invariant_of-self
invariant_of-self c =
    let told = rw c.in-Quiet.is at c.in_ok-turn.ensures.ok in
    let same = c.self-2.view_is ∙ told.0 in
    let given : c.self-2.inside.given ≡ c.self.inside.given = ap (λ (v : PartsView). v.now.left.given) (same ∙ sym c.self.view_is) in
    let held : c.self-2.inside.holding.held ≡ c.self.inside.holding.held = ap (λ (v : PartsView). v.now.facts.held) (same ∙ sym c.self.view_is) in
    let low = subst (λ (v : PartsView). v.now.left.given < length v.now.facts.held) (sym same) c.requires in
    let lit : get_or c.all-held.result.now c.self.inside.given no_lit ≡ held_at c.self-2.inside.holding.held c.self-2.inside.given
    = (λ i. held_at ((c.all-held.ensures ∙ sym held) i) (sym given i)) in
    let done = subst (λ (l : Lit). IsGiven (state_of c.self-2.inside) l) lit (subst (λ (v : PartsView). IsGiven v.now (get_or c.all-held.result.now c.self.inside.given no_lit)) (sym same) told.1) in
    record {
      kept = kept_given (state_of c.self-2.inside) c.self-2.invariant.kept low done;
      terms = c.self-2.invariant.terms;
      room = c.self-2.invariant.room;
      next = c.self-2.invariant.next;
    }
