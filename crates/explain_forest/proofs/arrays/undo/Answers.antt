-- Without the newest edge the arrays are those of the others.
use Rattle.std.proofs.Common.{rules, ◌≡◌, ◌-◌, take, length, slice_set, vec_len, sym, subst, ap, ◌∙◌, arith}
use Rattle.explain_forest.specs.Kept.{ArraysShow}
use Rattle.explain_forest.proofs.Showing.{shows-less}
use Rattle.explain_forest.proofs.arrays.undo.Goals as goal

pub returns-clause-shows : goal.returns-clause-shows
returns-clause-shows c =
    let n : vec_len c.args.edges.now ≡ length c.args.edges.now.items = search rules in
    let own = c.below_of-below.ensures.stamp ∙ ap length c.deref.ensures.value in
    let is : c.truncate.new.self.items ≡ take (length c.args.edges.now.items - 1) c.args.edges.now.items = c.truncate.ensures.items ∙ ap (λ k. take (k - 1) c.args.edges.now.items) (c.len.ensures ∙ n) in
    subst (λ es. ArraysShow (slice_set c.args.parents.now c.below_of-below.result c.below_of-below.result) (slice_set c.args.stamps.now c.below_of-below.result 0) es) (sym is)
    (shows-less c.args.parents.now c.args.stamps.now c.args.edges.now.items c.requires.shows (omega (arith, n)) c.below_of-below.result c.below_of-below.ensures.low own)
