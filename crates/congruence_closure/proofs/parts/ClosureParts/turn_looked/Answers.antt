-- The next listed term is looked at.
use Rattle.std.proofs.Common.{◌≡◌, ◌<◌, true, length, sym, ap, ◌∙◌, subst, arith}
use Rattle.congruence_relation.specs.Relation.{Facts}
use Rattle.congruence_closure.specs.Listed.{nth}
use Rattle.congruence_closure.specs.State.{Left, PartsView, HasKey, IsApart}
use Rattle.congruence_closure.specs.Kept.{state_of}
use Rattle.congruence_closure.proofs.Steps.{kept_looked}
use Rattle.congruence_closure.proofs.parts.ClosureParts.turn_looked.Goals as goal

pub invariant_of-self : goal.invariant_of-self
invariant_of-self c =
    let told = rw c.in-Quiet.is at c.in_ok-turn.ensures.ok in
    let looked : c.self-2.inside.looked ≡ c.self.inside.looked
    = ap (λ (v : PartsView). v.now.left.looked) c.self-2.view_is ∙ ap (λ (l : Left). l.looked) told.0 ∙ sym (ap (λ (v : PartsView). v.now.left.looked) c.self.view_is) in
    let size : length c.self-2.inside.listing ≡ length c.args.self.now.now.facts.listed
    = ap (λ (v : PartsView). length v.now.facts.listed) c.self-2.view_is ∙ ap (λ (f : Facts). length f.listed) c.look.ensures.goes.facts in
    let low : c.self-2.inside.looked < length c.self-2.inside.listing
    = omega (arith, looked, size, c.requires, ap (λ (v : PartsView). v.now.left.looked) c.self.view_is) in
    let ready = subst (λ (v : PartsView). (nth v.now.facts.listed c.self.inside.looked).takes_part ≡ true → HasKey v.now c.self.inside.looked × IsApart v.now c.self.inside.looked) (sym c.self-2.view_is) told.2 in
    record {
      kept = kept_looked (state_of c.self-2.inside) c.self-2.invariant.kept low
          (subst (λ n. (nth c.self-2.inside.listing n).takes_part ≡ true → HasKey (state_of c.self-2.inside) n × IsApart (state_of c.self-2.inside) n) (sym looked) ready);
      terms = c.self-2.invariant.terms;
      room = c.self-2.invariant.room;
      next = c.self-2.invariant.next;
    }
