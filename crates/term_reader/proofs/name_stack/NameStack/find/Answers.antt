-- The latest place of a name.
use Rattle.std.proofs.Common.{◌≡◌, ◌-◌, false, sym, ◌∙◌, subst, arith}
use Rattle.spec_text.specs.Bytes.{among}
use Rattle.term_reader.specs.NameStacks.{IsLatest}
use Rattle.term_reader.proofs.NameStacks.{in_range, not_met, not_placed, placed}
use Rattle.term_reader.proofs.name_stack.NameStack.find.Goals as goal

pub returns-in-None : goal.returns-in-None
returns-in-None c = subst (λ ns. among ns c.args.name.now ≡ false) c.self.view_is (not_met c.self.inside.met c.self.inside.latest.items c.self.inside.places.items c.self.invariant c.args.name.now c.in-None.ensures)

pub returns-then-place-eq0 : goal.returns-then-place-eq0
returns-then-place-eq0 c =
    let at = c.in-Some.ensures in
    subst (λ ns. among ns c.args.name.now ≡ false) c.self.view_is
    (not_placed c.self.inside.met c.self.inside.latest.items c.self.inside.places.items c.self.invariant c.no_name_twice.ensures c.args.name.now c.in-Some.number at.0 at.1
    (in_range c.self.inside.latest.items c.in-Some.number 0 c.index-place.result.now (omega (arith, at.0, c.self.invariant.long)) ∙ sym c.index-place.ensures ∙ c.if-place-eq0.true))

pub returns-else-place-eq0 : goal.returns-else-place-eq0
returns-else-place-eq0 c =
    let at = c.in-Some.ensures in
    subst (λ ns. IsLatest ns c.args.name.now (c.index-place.result.now - 1)) c.self.view_is
    (placed c.self.inside.met c.self.inside.latest.items c.self.inside.places.items c.self.invariant c.no_name_twice.ensures c.args.name.now c.in-Some.number at.0 at.1 (c.index-place.result.now - 1)
    (in_range c.self.inside.latest.items c.in-Some.number 0 c.index-place.result.now (omega (arith, at.0, c.self.invariant.long)) ∙ sym c.index-place.ensures ∙ omega (arith, c.if-place-eq0.false)))
