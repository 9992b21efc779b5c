-- The size of a class counts its terms.
use Rattle.std.proofs.Common.{arith, ◌≡◌, ◌∙◌, ◌<◌, length, slice_index, sym, subst}
use Rattle.std.proofs.lemmas.List.{get_or_default}
use Rattle.class_table.specs.Classes.{members_count}
use Rattle.class_table.specs.Rings.{RingsView, occurrences}
use Rattle.class_table.proofs.Lists.{occurrences-count}
use Rattle.class_table.proofs.Kept.{kept_whole}
use Rattle.class_table.proofs.rings.Rings.size.Goals as goal

pub index-requires : goal.index-requires
index-requires c =
    let r = c.self.inside in
    let h : c.args.class < length r.numbers.items = subst (λ (v : RingsView). c.args.class < length v.numbers) (sym c.self.view_is) c.requires.low in
    omega (arith, h, (kept_whole r c.self.invariant).sizes_long, r.sizes.ok.0)

pub returns : goal.returns
returns c =
    let r = c.self.inside in
    let w = kept_whole r c.self.invariant in
    let class = c.args.class in
    let h : class < length r.numbers.items = subst (λ (v : RingsView). class < length v.numbers) (sym c.self.view_is) c.requires.low in
    let live : slice_index r.numbers.items class ≡ class = subst (λ (v : RingsView). slice_index v.numbers class ≡ class) (sym c.self.view_is) c.requires.live in
    let in_sizes : class < length r.sizes.items = omega (arith, h, w.sizes_long) in
    subst (λ (v : RingsView). c.index.result.now ≡ members_count v.numbers class) c.self.view_is
    (c.index.ensures ∙ get_or_default r.sizes.items class c.index.result.now 0 in_sizes
    ∙ subst (λ n. slice_index r.sizes.items n ≡ occurrences n r.numbers.items) live (w.classes class h).size ∙ occurrences-count class r.numbers.items)
