-- One term more.
use Rattle.std.proofs.Common.{rules, ◌≡◌, ◌∷◌, ◌++◌, [], length, vec_len, sym, subst, ap, ◌∙◌, arith}
use Rattle.std.proofs.lemmas.Grind.{common_steps}
use Rattle.explain_forest.specs.Kept.{parents_by, ArraysShow}
use Rattle.explain_forest.proofs.Showing.{shows-more}
use Rattle.explain_forest.proofs.arrays.grow.Goals as goal

pub loop-preserved : goal.loop-preserved
loop-preserved c =
    let n : vec_len c.loop.parents ≡ length c.loop.parents.items = search rules in
    let parents_by : c.push_reserved.new.self.items ≡ c.loop.parents.items ++ length c.loop.parents.items ∷ [] = c.push_reserved.ensures.items ∙ ap (λ k. c.loop.parents.items ++ k ∷ []) (c.len.ensures ∙ n) in
    record {
      up_room = omega (arith, c.push_reserved.ensures.len, c.push_reserved.ensures.capacity, c.loop.invariant.up_room);
      over_room = omega (arith, c.push_reserved-in-loop.ensures.len, c.push_reserved-in-loop.ensures.capacity, c.loop.invariant.over_room);
      terms = let i = c.loop.invariant.terms in rw parents_by (grind (arith, common_steps, i));
      shows = λ edges s. subst (λ us. ArraysShow us c.push_reserved-in-loop.new.self.items edges) (sym parents_by) (subst (λ os. ArraysShow (c.loop.parents.items ++ length c.loop.parents.items ∷ []) os edges) (sym c.push_reserved-in-loop.ensures.items) (shows-more c.loop.parents.items c.loop.stamps.items edges (c.loop.invariant.shows edges s)));
    }
