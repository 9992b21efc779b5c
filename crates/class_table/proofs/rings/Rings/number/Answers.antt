-- A class has the number of one of its terms.
use Rattle.std.proofs.Common.{◌≡◌, ◌∙◌, ◌<◌, length, slice_index, sym, subst}
use Rattle.std.proofs.lemmas.List.{get_or_default}
use Rattle.class_table.specs.Rings.{RingsView}
use Rattle.class_table.proofs.Kept.{kept_whole}
use Rattle.class_table.proofs.rings.Rings.number.Goals as goal

pub returns-clause-low : goal.returns-clause-low
returns-clause-low c =
    let ns = c.self.inside.numbers.items in
    let h : c.args.t.0 < length ns = subst (λ (r : RingsView). c.args.t.0 < length r.numbers) (sym c.self.view_is) c.requires in
    let is : c.index.result.now ≡ slice_index ns c.args.t.0 = c.index.ensures ∙ get_or_default ns c.args.t.0 c.index.result.now 0 h in
    subst (λ (r : RingsView). c.index.result.now < length r.numbers) c.self.view_is
    (subst (λ n. n < length ns) (sym is) ((kept_whole c.self.inside c.self.invariant).classes c.args.t.0 h).low)

pub returns-clause-live : goal.returns-clause-live
returns-clause-live c =
    let ns = c.self.inside.numbers.items in
    let h : c.args.t.0 < length ns = subst (λ (r : RingsView). c.args.t.0 < length r.numbers) (sym c.self.view_is) c.requires in
    let is : c.index.result.now ≡ slice_index ns c.args.t.0 = c.index.ensures ∙ get_or_default ns c.args.t.0 c.index.result.now 0 h in
    subst (λ (r : RingsView). slice_index r.numbers c.index.result.now ≡ c.index.result.now) c.self.view_is
    (subst (λ n. slice_index ns n ≡ n) (sym is) ((kept_whole c.self.inside c.self.invariant).classes c.args.t.0 h).live)
