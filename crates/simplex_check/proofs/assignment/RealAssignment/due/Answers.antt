use Rattle.std.proofs.Common.{◌≡◌, ◌<◌, true, ap, sym, ◌∙◌, arith, subst, length, get_or, inl, inr}
use Rattle.std.proofs.lemmas.Bool.{cases_lt}
use Rattle.std.proofs.lemmas.List.{get_or_default}
use Rattle.std.proofs.lemmas.List.Elements.{All-contains}
use Rattle.simplex_bounds.specs.declared.bounds.Bound.{Bound}
use Rattle.simplex_check.specs.Suspects.{is_among}
use Rattle.simplex_check.proofs.assignment.RealAssignment.due.Goals as goal

pub loop-place-init : goal.loop-place-init
loop-place-init c = record {
  due = λ k l lt none. absurd (omega (arith, l, lt));
  known = λ z m. absurd (let e = ap (is_among z) c.new-due.ensures in cc);
}

pub loop-place-preserved : goal.loop-place-preserved
loop-place-preserved c =
    let held = c.args.bounds.now.held in
    let place = c.loop-place.place in
    let there : place < length held = omega (arith, c.loop-place-test.true, c.held_len-place-end.ensures) in
    let i = c.loop-place.invariant in
    record {
      due = λ k l lt none. elim (cases_lt k place) [
        | inl early ↦ c.in_ok-add.ensures.kept (get_or held k none).variable (i.due k l early none)
        | inr late ↦ subst (λ i. is_among (get_or held i none).variable c.add.new.self ≡ true) (let e : place ≡ k = omega (arith, lt, late) in e)
            (ap (λ (b : Bound). is_among b.variable c.add.new.self) (get_or_default held place none c.held_at.result there ∙ sym c.held_at.ensures)
            ∙ c.in_ok-add.ensures.added)
      ];
      known = λ z m. elim (c.in_ok-add.ensures.only z m) [
        | inl old ↦ i.known z old
        | inr e ↦ subst (λ y. y < c.args.bounds.now.variables) (sym e)
            (All-contains (λ (b : Bound). b.variable < c.args.bounds.now.variables) held c.held_at.result c.held_are_of_variables.ensures (place, there, sym c.held_at.ensures))
      ];
    }

pub returns-clause-due : goal.returns-clause-due
returns-clause-due c k l lt none = c.loop-place.invariant.due k l (omega (arith, lt, c.loop-place-test.false, c.held_len-place-end.ensures)) none
