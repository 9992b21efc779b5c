-- There is room for as many edges as there are terms.
use Rattle.std.proofs.Common.{◌≡◌, length, reverse, sym, subst, ap, arith}
use Rattle.std.proofs.lemmas.List.{length-reverse}
use Rattle.explain_forest.specs.Kept.{ArraysShow}
use Rattle.explain_forest.proofs.Room.{edges-few}
use Rattle.explain_forest.proofs.Keeping.{kept-more}
use Rattle.explain_forest.proofs.forest.Forest.add.Goals as goal

pub overflow_sub-t : goal.overflow_sub-t
overflow_sub-t c =
    let f = c.self.inside in
    let few = edges-few (length f.parents.items) (reverse f.edges.items) c.self.invariant.shows.apart in
    let n = length-reverse f.edges.items in
    omega (arith, few, n, c.len.ensures, c.len-count.ensures, c.if-t-count.false, f.parents.ok.0, f.edges.ok.0)

pub invariant_of-self-2 : goal.invariant_of-self-2
invariant_of-self-2 c =
    let f = c.self.inside in
    let ps = c.in_ok-reserve.ensures.items in
    let n : length c.reserve.new.self.items ≡ length f.parents.items = ap length ps in
    kept-more f.parents.items f.stamps.items f.edges.items f.marks.items _ c.self.invariant c.grow.new.parents.items c.grow.new.stamps.items c.reserve-3.new.self.items _ (omega (arith, n, c.grow.ensures.terms))
    (c.grow.ensures.shows f.edges.items (subst (λ us. ArraysShow us c.reserve-2.new.self.items f.edges.items) (sym ps) (subst (λ os. ArraysShow f.parents.items os f.edges.items) (sym c.in_ok-reserve-2.ensures.items) c.self.invariant.shows)))
    c.in_ok-reserve-3.ensures.items
    (omega (arith, n, c.grow.ensures.terms, c.in_ok-reserve-3.ensures.ok, c.len.ensures, c.len-count.ensures, f.parents.ok.0, f.edges.ok.0, c.if-t-count.false))
