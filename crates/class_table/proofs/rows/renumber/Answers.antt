-- One term less is to be renumbered.
use Rattle.std.proofs.Common.{arith, ◌≡◌, ◌∙◌, suc, ◌+◌, ◌-◌, ◌<◌, ℕ, length, length-set, slice_index, slice_set, sym, ap, subst}
use Rattle.std.proofs.lemmas.List.{get_or_default}
use Rattle.std.proofs.lemmas.List.Elements.{All-get_or}
use Rattle.class_table.specs.Rings.{walk, set_each}
use Rattle.class_table.proofs.rows.renumber.Goals as goal

pub loop-preserved : goal.loop-preserved
loop-preserved c =
    let ns = c.loop.numbers.items in
    let next = c.args.next.now.items in
    let i = c.loop.invariant in
    let at : c.index-at.result.now ≡ slice_index next c.loop.at = c.index-at.ensures ∙ get_or_default next c.loop.at c.index-at.result.now 0 i.inside in
    let e : c.args.count - c.loop.counter ≡ suc (c.args.count - (c.loop.counter + 1)) = omega arith in
    record {
      inside = subst (λ t. t < length next) (sym at) (All-get_or (λ (t : ℕ). t < length next) next c.loop.at 0 i.inside c.requires.inside);
      sized = length-set ns c.loop.at c.args.into ∙ i.sized;
      left = ap (λ t. set_each (slice_set ns c.loop.at c.args.into) c.args.into (walk next (c.args.count - (c.loop.counter + 1)) t)) at
          ∙ subst (λ k. set_each ns c.args.into (walk next k c.loop.at) ≡ set_each c.args.numbers.now.items c.args.into (walk next c.args.count c.args.start)) e i.left;
    }
