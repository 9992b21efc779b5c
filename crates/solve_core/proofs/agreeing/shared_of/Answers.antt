-- Place by place.
use Rattle.std.proofs.Common.{◌<◌, ◌≡◌, List, refl, sym, arith, subst, map, length}
use Rattle.ratio128.specs.Meant.{fraction}
use Rattle.agreement.specs.declared.agreeing.Shared.{Shared}
use Rattle.solve_core.specs.Agreeing.{AreTheoryValuesBelow}
use Rattle.solve_core.proofs.SearchAgreed.{assigned_none, assigned_more, assigned_at_index}
use Rattle.solve_core.proofs.agreeing.shared_of.Goals as goal

pub places-init : goal.places-init
places-init c =
    let assigned_values = c.args.assigned_values.now in
    subst (λ (xs : List Shared). AreTheoryValuesBelow c.args.shared.now assigned_values.classes.items (map fraction assigned_values.numbers.items) c.args.from 0 xs) (sym c.new-xs.ensures.items)
    (assigned_none c.args.shared.now assigned_values.classes.items (map fraction assigned_values.numbers.items) c.args.from)

pub places-preserved : goal.places-preserved
places-preserved c =
    let assigned_values = c.args.assigned_values.now in
    let ids = c.args.shared.now in
    let k = c.places.at in
    let from = c.args.from in
    let lt : k < length ids = c.places-test.true in
    assigned_more ids assigned_values.classes.items (map fraction assigned_values.numbers.items) from k c.places.xs.items c.push.new.self.items _
    (assigned_at_index ids assigned_values.classes.items assigned_values.numbers.items from k _ _ c.index.result.now c.index-in-places.result.now lt (omega (arith, lt, c.requires.classes)) (omega (arith, lt, c.requires.numbers))
    refl c.index.ensures c.index-in-places.ensures refl c.number.ensures) c.in_ok-push.ensures.items c.places.invariant

pub returns : goal.returns
returns c =
    let assigned_values = c.args.assigned_values.now in
    let ids = c.args.shared.now in
    let all : c.places.at ≡ length ids = omega (arith, c.places-test.false, c.places.auto.at-end) in
    subst (λ n. AreTheoryValuesBelow ids assigned_values.classes.items (map fraction assigned_values.numbers.items) c.args.from n c.places.xs.items) all c.places.invariant
