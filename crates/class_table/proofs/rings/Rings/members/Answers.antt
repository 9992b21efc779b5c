-- The ring of a term has the terms of its class.
use Rattle.std.proofs.Common.{arith, ◌≡◌, ◌∙◌, ◌<◌, IfOk, map, length, slice_index, sym, ap, subst}
use Rattle.std.proofs.lemmas.List.{get_or_default}
use Rattle.std.proofs.lemmas.Result.{IfOk-weaker}
use Rattle.class_table.specs.Classes.{class_at, AreMembers}
use Rattle.class_table.specs.Rings.{RingsView, walk, state_in}
use Rattle.class_table.proofs.Kept.{kept_whole, next_inside}
use Rattle.class_table.proofs.Listed.{are_members}
use Rattle.class_table.proofs.rings.Rings.members.Goals as goal

pub index-size-requires : goal.index-size-requires
index-size-requires c =
    let r = c.self.inside in
    let w = kept_whole r c.self.invariant in
    let ns = r.numbers.items in
    let h : c.args.t.0 < length ns = subst (λ (v : RingsView). c.args.t.0 < length v.numbers) (sym c.self.view_is) c.requires in
    let is : c.index.result.now ≡ slice_index ns c.args.t.0 = c.index.ensures ∙ get_or_default ns c.args.t.0 c.index.result.now 0 h in
    omega (arith, is, (w.classes c.args.t.0 h).low, w.sizes_long, r.sizes.ok.0)

pub list_ring-requires-clause-inside : goal.list_ring-requires-clause-inside
list_ring-requires-clause-inside c = next_inside c.self.inside c.self.invariant

pub list_ring-requires-clause-start : goal.list_ring-requires-clause-start
list_ring-requires-clause-start c =
    let r = c.self.inside in
    let w = kept_whole r c.self.invariant in
    let h : c.args.t.0 < length r.numbers.items = subst (λ (v : RingsView). c.args.t.0 < length v.numbers) (sym c.self.view_is) c.requires in
    omega (arith, h, w.next_long)

pub returns : goal.returns
returns c =
    let r = c.self.inside in
    let w = kept_whole r c.self.invariant in
    let t = c.args.t in
    let ns = r.numbers.items in
    let h : t.0 < length ns = subst (λ (v : RingsView). t.0 < length v.numbers) (sym c.self.view_is) c.requires in
    let class : c.index.result.now ≡ class_at ns t = c.index.ensures ∙ get_or_default ns t.0 c.index.result.now 0 h in
    let low : class_at ns t < length r.sizes.items = omega (arith, (w.classes t.0 h).low, w.sizes_long) in
    let low2 : c.index.result.now < length r.sizes.items = omega (arith, low, class) in
    let size : c.index-size.result.now ≡ slice_index r.sizes.items (class_at ns t) =
    c.index-size.ensures ∙ get_or_default r.sizes.items c.index.result.now c.index-size.result.now 0 low2 ∙ ap (slice_index r.sizes.items) class in
    subst (λ (v : RingsView). IfOk c.list_ring.result (λ members. AreMembers v.numbers t members.items)) c.self.view_is
    (IfOk-weaker c.list_ring.result
    (λ members. members.items ≡ map (λ n. record { 0 = n }) (walk r.next.items c.index-size.result.now t.0))
    (λ members. AreMembers ns t members.items)
    (λ members is. subst (AreMembers ns t) (sym (is ∙ ap (λ k. map (λ n. record { 0 = n }) (walk r.next.items k t.0)) size)) (are_members (state_in r) t w h))
    c.list_ring.ensures)
