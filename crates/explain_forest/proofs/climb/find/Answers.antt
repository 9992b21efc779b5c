-- The climb stays at terms of one root.
use Rattle.std.proofs.Common.{◌≡◌, ◌≢◌, ◌<◌, length, reverse, slice_index, sym, ◌∙◌, subst}
use Rattle.std.proofs.lemmas.List.{length-reverse}
use Rattle.explain_forest.specs.Forest.{Linked}
use Rattle.explain_forest.specs.Kept.{parents_by, stamps_by, height}
use Rattle.explain_forest.proofs.Roots.{length-stamps, stamp-root, parent-low, parent-linked, height-less}
use Rattle.explain_forest.proofs.climb.find.Goals as goal

pub bounds-stamps-at : goal.bounds-stamps-at
bounds-stamps-at c = rw (c.requires.shows.stamps_are, length-stamps) c.climb.invariant.low

pub climb-preserved : goal.climb-preserved
climb-preserved c =
    let n = length c.args.parents.now in
    let es = reverse c.args.edges.now in
    record {
      low = subst (λ us. slice_index us c.climb.at < n) (sym c.requires.shows.parents_are) (parent-low n es c.climb.at c.requires.shows.apart c.climb.invariant.low);
      linked = subst (λ us. Linked es (slice_index us c.climb.at) c.args.t) (sym c.requires.shows.parents_are) (parent-linked n es c.climb.at c.requires.shows.apart c.climb.invariant.low ∙ c.climb.invariant.linked);
    }

pub climb-smaller : goal.climb-smaller
climb-smaller c =
    let n = length c.args.parents.now in
    let es = reverse c.args.edges.now in
    let h : slice_index (stamps_by n es) c.climb.at ≢ 0 = subst (λ os. slice_index os c.climb.at ≢ 0) c.requires.shows.stamps_are c.climb-test.true in
    subst (λ us. height c.args.stamps.now (length c.args.edges.now) (slice_index us c.climb.at) < height c.args.stamps.now (length c.args.edges.now) c.climb.at) (sym c.requires.shows.parents_are)
    (subst (λ k. height c.args.stamps.now k (slice_index (parents_by n es) c.climb.at) < height c.args.stamps.now k c.climb.at) (length-reverse c.args.edges.now)
    (subst (λ os. height os (length es) (slice_index (parents_by n es) c.climb.at) < height os (length es) c.climb.at) (sym c.requires.shows.stamps_are) (height-less n es c.climb.at c.requires.shows.apart c.climb.invariant.low h)))

pub returns-clause-value : goal.returns-clause-value
returns-clause-value c =
    let n = length c.args.parents.now in
    let es = reverse c.args.edges.now in
    sym (stamp-root n es c.climb.at c.requires.shows.apart c.climb.invariant.low (subst (λ os. slice_index os c.climb.at ≡ 0) c.requires.shows.stamps_are c.climb-test.false)) ∙ c.climb.invariant.linked
