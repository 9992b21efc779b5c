-- One order more is joined to the one before it.
use Rattle.std.proofs.Common.{◌-◌, ℕ, get_or, arith, subst}
use Rattle.std.proofs.lemmas.List.{get_or_default}
use Rattle.std.proofs.lemmas.List.Sorted.{all_adjacent_more}
use Rattle.order_cycles.specs.Cycles.{Joins}
use Rattle.order_cycles.proofs.cycles.are_joined.Goals as goal

pub places-init : goal.places-init
places-init c k d lt = absurd (omega (arith, lt))

pub places-preserved : goal.places-preserved
places-preserved c =
    let places = c.args.places.now in
    let Follows = Joins c.args.orders.now in
    all_adjacent_more places Follows c.places.at (omega (arith, c.places.auto.at)) c.places.invariant (λ d.
    subst (λ (a : ℕ). Follows a (get_or places c.places.at d)) (get_or_default places (c.places.at - 1) 0 d (omega (arith, c.places-test.true)))
    (subst (λ (b : ℕ). Follows (get_or places (c.places.at - 1) 0) b) (get_or_default places c.places.at 0 d c.places-test.true) (c.joins.ensures c.if-not-joins.false)))

pub returns : goal.returns
returns c _ k d lt = c.places.invariant k d (omega (arith, lt, c.places-test.false))
