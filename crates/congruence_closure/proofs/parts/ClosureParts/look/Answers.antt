-- A key that was absent is put, with its term.
use Rattle.std.proofs.Common.{◌≡◌, ◌<◌, length, true≢false, refl, sym, ap, ◌∙◌, subst}
use Rattle.term_core.specs.declared.ids.TermId.{TermId}
use Rattle.term_core.specs.Tables.{Shape, shape_of}
use Rattle.congruence_relation.specs.declared.Conflict.TheVariants.{Sides}
use Rattle.congruence_relation.specs.Edges.{IsConflict}
use Rattle.congruence_closure.specs.Listed.{nth}
use Rattle.congruence_closure.specs.Keys.{Keys, key_of, with_key, IsAbsent}
use Rattle.congruence_closure.specs.State.{PartsView, PartsFit, HasKey, IsApart}
use Rattle.congruence_closure.specs.Changes.{IsAgainst}
use Rattle.congruence_closure.specs.Kept.{state_of}
use Rattle.congruence_closure.proofs.Steps.{with_keys, kept_key, has_new_key}
use Rattle.congruence_closure.proofs.parts.ClosureParts.look.Goals as goal

pub invariant_of-self-in-None : goal.invariant_of-self-in-None
invariant_of-self-in-None c =
    let view = c.self.view_is ∙ c.in_ok-against.ensures.same in
    let told = rw c.in-None.is at c.in_ok-holder.ensures.ok in
    let key : shape_of c.in_ok-key.key ≡ key_of c.self.inside.classes.numbers (nth c.self.inside.listing c.args.place).shape = c.in_ok-key.ensures ∙ ap (key_of c.self.inside.classes.numbers) c.at-2.ensures.node in
    let low = subst (λ (v : PartsView). c.args.place < length v.now.facts.listed) (sym view) c.requires in
    let absent = subst (IsAbsent c.self.inside.keys) key told.0 in
    let is : c.look_up.new.self ≡ with_key c.self.inside.keys (key_of c.self.inside.classes.numbers (nth c.self.inside.listing c.args.place).shape) c.args.place
    = told.1 ∙ ap (λ (x : Shape). with_key c.self.inside.keys x c.args.place) key in
    let taken = ap (λ (v : PartsView). (nth v.now.facts.listed c.args.place).takes_part) view ∙ sym c.takes_part_at.ensures ∙ c.if-not-takes_part_at.false in
    record {
      kept = subst (λ (k : Keys). PartsFit (with_keys (state_of c.self.inside) k)) (sym is) (kept_key (state_of c.self.inside) c.args.place c.self.invariant.kept low absent taken);
      terms = c.self.invariant.terms;
      room = c.self.invariant.room;
      next = c.self.invariant.next;
    }

pub returns-in-None-clause-ok : goal.returns-in-None-clause-ok
returns-in-None-clause-ok c =
    let view = c.self.view_is ∙ c.in_ok-against.ensures.same in
    let apart : IsApart c.args.self.now.now c.args.place = rw c.if-against.false at c.in_ok-against.ensures.against in
    let told = rw c.in-None.is at c.in_ok-holder.ensures.ok in
    let key : shape_of c.in_ok-key.key ≡ key_of c.self.inside.classes.numbers (nth c.self.inside.listing c.args.place).shape = c.in_ok-key.ensures ∙ ap (key_of c.self.inside.classes.numbers) c.at-2.ensures.node in
    let low = subst (λ (v : PartsView). c.args.place < length v.now.facts.listed) (sym view) c.requires in
    let absent = subst (IsAbsent c.self.inside.keys) key told.0 in
    let is : c.look_up.new.self ≡ with_key c.self.inside.keys (key_of c.self.inside.classes.numbers (nth c.self.inside.listing c.args.place).shape) c.args.place
    = told.1 ∙ ap (λ (x : Shape). with_key c.self.inside.keys x c.args.place) key in
    let taken = ap (λ (v : PartsView). (nth v.now.facts.listed c.args.place).takes_part) view ∙ sym c.takes_part_at.ensures ∙ c.if-not-takes_part_at.false in (
      ap (λ (v : PartsView). v.now.left) view,
      ap (λ (v : PartsView). v.now.edges) view,
      λ part. (
        subst (λ (k : Keys). HasKey (with_keys (state_of c.self.inside) k) c.args.place) (sym is) (has_new_key (state_of c.self.inside) c.args.place c.self.invariant.kept low absent taken),
        subst (λ (v : PartsView). IsApart v.now c.args.place) (sym view) apart,
      ),
    )

pub returns-then-not-takes_part_at-clause-ok : goal.returns-then-not-takes_part_at-clause-ok
returns-then-not-takes_part_at-clause-ok c = (refl, refl, λ part. absurd (true≢false (sym part ∙ sym c.takes_part_at.ensures ∙ c.if-not-takes_part_at.true)))

pub is_against-requires-clause-part : goal.is_against-requires-clause-part
is_against-requires-clause-part c = sym c.takes_part_at.ensures ∙ c.if-not-takes_part_at.false

pub meet-requires-clause-part : goal.meet-requires-clause-part
meet-requires-clause-part c = ap (λ (v : PartsView). (nth v.now.facts.listed c.args.place).takes_part) (c.self.view_is ∙ c.in_ok-against.ensures.same) ∙ sym c.takes_part_at.ensures ∙ c.if-not-takes_part_at.false

pub meet-requires-clause-apart : goal.meet-requires-clause-apart
meet-requires-clause-apart c =
    let apart : IsApart c.args.self.now.now c.args.place = rw c.if-against.false at c.in_ok-against.ensures.against in
    subst (λ (v : PartsView). IsApart v.now c.args.place) (sym (c.self.view_is ∙ c.in_ok-against.ensures.same)) apart

pub returns-then-against-clause-ok : goal.returns-then-against-clause-ok
returns-then-against-clause-ok c =
    let s = c.args.self.now.now in
    let view = c.self.view_is ∙ c.in_ok-against.ensures.same in
    let against : IsAgainst s c.args.place = rw c.if-against.true at c.in_ok-against.ensures.against in
    subst (λ (v : PartsView). IsConflict v.now.facts v.now.edges (Sides c.at.result.now.term)) (sym c.in_ok-against.ensures.same)
    (subst (λ (t : TermId). IsConflict s.facts s.edges (Sides t)) (sym (c.at.ensures.term ∙ ap (λ (v : PartsView). (nth v.now.facts.listed c.args.place).term) view)) against)
