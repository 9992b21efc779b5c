-- The terms climb to where they meet.
use Rattle.std.proofs.Common.{◌<◌, sym, subst}
use Rattle.explain_forest.proofs.Climbing.{length-stamps_shown, start, some, differ, left, right, met_left, met_right, less_left, less_right}
use Rattle.explain_forest.proofs.climb.top.Goals as goal

pub climb-init : goal.climb-init
climb-init c = start c.args.parents.now c.args.stamps.now c.args.edges.now c.requires.shows c.args.x c.args.y c.requires.x c.requires.y c.requires.apart

pub bounds-stamps-u : goal.bounds-stamps-u
bounds-stamps-u c = subst (λ n. c.climb.u < n) (sym (length-stamps_shown c.args.parents.now c.args.stamps.now c.args.edges.now c.requires.shows)) c.climb.invariant.low.0

pub bounds-stamps-v : goal.bounds-stamps-v
bounds-stamps-v c = subst (λ n. c.climb.v < n) (sym (length-stamps_shown c.args.parents.now c.args.stamps.now c.args.edges.now c.requires.shows)) c.climb.invariant.low.1

pub left_first-requires-clause-some : goal.left_first-requires-clause-some
left_first-requires-clause-some c = some c.args.parents.now c.args.stamps.now c.args.edges.now c.requires.shows c.args.x c.args.y c.climb.u c.climb.v c.requires.linked c.climb.invariant

pub left_first-requires-clause-apart : goal.left_first-requires-clause-apart
left_first-requires-clause-apart c = differ c.args.parents.now c.args.stamps.now c.args.edges.now c.requires.shows c.args.x c.args.y c.climb.u c.climb.v c.requires.linked c.climb.invariant

pub returns-then-u-v : goal.returns-then-u-v
returns-then-u-v c = met_left c.args.parents.now c.args.stamps.now c.args.edges.now c.requires.shows c.args.x c.args.y c.climb.u c.climb.v c.climb.invariant c.if-left_first.ensures c.if-u-v.true

pub climb-smaller-else-u-v : goal.climb-smaller-else-u-v
climb-smaller-else-u-v c = less_left c.args.parents.now c.args.stamps.now c.args.edges.now c.requires.shows c.args.x c.args.y c.climb.u c.climb.v c.climb.invariant c.if-left_first.ensures.0

pub climb-preserved-else-u-v : goal.climb-preserved-else-u-v
climb-preserved-else-u-v c = left c.args.parents.now c.args.stamps.now c.args.edges.now c.requires.shows c.args.x c.args.y c.climb.u c.climb.v c.climb.invariant c.if-left_first.ensures c.if-u-v.false

pub returns-then-u-v-2 : goal.returns-then-u-v-2
returns-then-u-v-2 c = met_right c.args.parents.now c.args.stamps.now c.args.edges.now c.requires.shows c.args.x c.args.y c.climb.u c.climb.v c.climb.invariant c.if-left_first.ensures c.if-u-v-2.true

pub climb-smaller : goal.climb-smaller
climb-smaller c = less_right c.args.parents.now c.args.stamps.now c.args.edges.now c.requires.shows c.args.x c.args.y c.climb.u c.climb.v c.climb.invariant c.if-left_first.ensures.0

pub climb-preserved : goal.climb-preserved
climb-preserved c = right c.args.parents.now c.args.stamps.now c.args.edges.now c.requires.shows c.args.x c.args.y c.climb.u c.climb.v c.climb.invariant c.if-left_first.ensures c.if-u-v-2.false
