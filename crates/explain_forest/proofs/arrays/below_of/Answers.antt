-- The climb comes to the term that the newest edge put under another.
use Rattle.std.proofs.Common.{◌<◌, sym, subst}
use Rattle.explain_forest.proofs.Climbing.{length-stamps_shown}
use Rattle.explain_forest.proofs.Showing.{one_up}
use Rattle.explain_forest.proofs.arrays.below_of.Goals as goal

pub bounds-stamps-at : goal.bounds-stamps-at
bounds-stamps-at c = subst (λ n. c.climb.at < n) (sym (length-stamps_shown c.args.parents.now c.args.stamps.now c.args.edges.now c.requires.shows)) c.climb.invariant.low

pub climb-smaller : goal.climb-smaller
climb-smaller c = (one_up c.args.parents.now c.args.stamps.now c.args.edges.now c.requires.shows c.requires.some c.climb.at c.climb.invariant.low c.climb-test.true c.climb.invariant.linked).less

pub climb-preserved : goal.climb-preserved
climb-preserved c =
    let u = one_up c.args.parents.now c.args.stamps.now c.args.edges.now c.requires.shows c.requires.some c.climb.at c.climb.invariant.low c.climb-test.true c.climb.invariant.linked in
    record { low = u.low; linked = u.linked }
