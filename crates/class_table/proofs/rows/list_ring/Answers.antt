-- One term less is to be listed.
use Rattle.std.proofs.Common.{arith, ◌≡◌, ◌∙◌, suc, ◌+◌, ◌-◌, ◌<◌, ◌++◌, ◌∷◌, [], ℕ, List, length, map, slice_index, sym, subst, ap₂, append_assoc}
use Rattle.std.proofs.lemmas.List.{get_or_default}
use Rattle.std.proofs.lemmas.List.Elements.{All-get_or}
use Rattle.term_core.specs.declared.ids.TermId.{TermId}
use Rattle.class_table.specs.Rings.{walk}
use Rattle.class_table.proofs.rows.list_ring.Goals as goal

pub loop-preserved : goal.loop-preserved
loop-preserved c =
    let next = c.args.next.now.items in
    let i = c.loop.invariant in
    let named : ℕ → TermId = λ n. record { 0 = n } in
    let at : c.index-at.result.now ≡ slice_index next c.loop.at = c.index-at.ensures ∙ get_or_default next c.loop.at c.index-at.result.now 0 i.inside in
    let e : c.args.count - c.loop.counter ≡ suc (c.args.count - (c.loop.counter + 1)) = omega arith in
    let rest = map named (walk next (c.args.count - (c.loop.counter + 1)) (slice_index next c.loop.at)) in
    record {
      inside = subst (λ t. t < length next) (sym at) (All-get_or (λ (t : ℕ). t < length next) next c.loop.at 0 i.inside c.requires.inside);
      room = omega (arith, i.room, c.push_reserved.ensures.len, c.push_reserved.ensures.capacity, e);
      left = ap₂ (λ (ts : List TermId) t. ts ++ map named (walk next (c.args.count - (c.loop.counter + 1)) t)) c.push_reserved.ensures.items at
          ∙ append_assoc c.loop.terms.items (named c.loop.at ∷ []) rest
          ∙ subst (λ k. c.loop.terms.items ++ map named (walk next k c.loop.at) ≡ map named (walk next c.args.count c.args.start)) e i.left;
    }
