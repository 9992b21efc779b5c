use Rattle.std.proofs.Common.{◌<◌, subst, sym}
use Rattle.simplex_bounds.specs.Held.{BoundsView, IsLeastCrossed}
use Rattle.simplex_bounds.proofs.Changes.{kept_more}
use Rattle.simplex_bounds.proofs.held.Bounds.hold.Goals as goal

pub invariant_of-self : goal.invariant_of-self
invariant_of-self c =
    let s = c.self.inside in
    let before = subst (λ (v : BoundsView). IsLeastCrossed v.held c.crossed-before.result) (sym c.self.view_is) c.crossed-before.ensures in
    let there = subst (λ (v : BoundsView). c.args.bound.variable < v.variables) (sym c.self.view_is) c.requires.there in
    kept_more s.limits.items s.entries.items c.push_reserved.new.self.items (record { bound = c.args.bound; found = c.at.result; crossed = c.crossed_after-crossed.result })
    c.index-limits.result.now c.tightened-tightened.result c.crossed-before.result c.self.invariant there c.index-limits.ensures c.tightened-tightened.ensures c.at.ensures before
    c.crossed_after-crossed.ensures c.push_reserved.ensures.items
