-- The rows are what one merge less makes of them.
use Rattle.std.proofs.Common.{arith, ◌∙◌, ◌-◌, length, refl, ap}
use Rattle.std.specs.Vec.{with_item}
use Rattle.class_table.specs.Rings.{RingsView}
use Rattle.class_table.proofs.Kept.{kept_whole, undone_low, undone_inside, undone_less, kept_undone}
use Rattle.class_table.proofs.rings.Rings.undo.Goals as goal

pub index-count-requires : goal.index-count-requires
index-count-requires c =
    let r = c.self.inside in
    omega (arith, (undone_low r c.self.invariant c.pop.new.self.items c.in-Some.field-0 c.in-Some.ensures.items).0, (kept_whole r c.self.invariant).sizes_long, r.sizes.ok.0)

pub swap_next-requires-clause-a : goal.swap_next-requires-clause-a
swap_next-requires-clause-a c =
    omega (arith, (undone_low c.self.inside c.self.invariant c.pop.new.self.items c.in-Some.field-0 c.in-Some.ensures.items).0, (kept_whole c.self.inside c.self.invariant).next_long)

pub swap_next-requires-clause-b : goal.swap_next-requires-clause-b
swap_next-requires-clause-b c =
    omega (arith, (undone_low c.self.inside c.self.invariant c.pop.new.self.items c.in-Some.field-0 c.in-Some.ensures.items).1, (kept_whole c.self.inside c.self.invariant).next_long)

pub renumber-requires-clause-sized : goal.renumber-requires-clause-sized
renumber-requires-clause-sized c =
    (undone_inside c.self.inside c.self.invariant c.pop.new.self.items c.in-Some.field-0 c.in-Some.ensures.items c.swap_next.new.next.items c.swap_next.ensures).0

pub renumber-requires-clause-inside : goal.renumber-requires-clause-inside
renumber-requires-clause-inside c =
    (undone_inside c.self.inside c.self.invariant c.pop.new.self.items c.in-Some.field-0 c.in-Some.ensures.items c.swap_next.new.next.items c.swap_next.ensures).1

pub renumber-requires-clause-start : goal.renumber-requires-clause-start
renumber-requires-clause-start c =
    omega (
      arith,
      (undone_low c.self.inside c.self.invariant c.pop.new.self.items c.in-Some.field-0 c.in-Some.ensures.items).0,
      (undone_inside c.self.inside c.self.invariant c.pop.new.self.items c.in-Some.field-0 c.in-Some.ensures.items c.swap_next.new.next.items c.swap_next.ensures).0,
    )

pub index_mut-requires : goal.index_mut-requires
index_mut-requires c =
    let r = c.self.inside in
    omega (arith, (undone_low r c.self.invariant c.pop.new.self.items c.in-Some.field-0 c.in-Some.ensures.items).1, (kept_whole r c.self.invariant).sizes_long, r.sizes.ok.0)

pub overflow_sub-index_mut : goal.overflow_sub-index_mut
overflow_sub-index_mut c =
    undone_less c.self.inside c.self.invariant c.pop.new.self.items c.in-Some.field-0 c.in-Some.ensures.items c.index-count.result.now c.index_mut.result.now c.index-count.ensures c.index_mut.ensures.value

pub invariant_of-self-2 : goal.invariant_of-self-2
invariant_of-self-2 c =
    let r = c.self.inside in
    (kept_undone r c.self.invariant c.pop.new.self.items c.in-Some.field-0 c.in-Some.ensures.items c.index-count.result.now c.index_mut.result.now c.index-count.ensures c.index_mut.ensures.value
    (record { numbers = c.renumber.new.numbers; next = c.swap_next.new.next; sizes = with_item r.sizes c.in-Some.field-0.into (c.index_mut.result.now - c.index-count.result.now); merges = c.pop.new.self })
    c.renumber.ensures c.swap_next.ensures refl refl c.in-Some.ensures.capacity).1

pub returns-clause-terms : goal.returns-clause-terms
returns-clause-terms c =
    let r = c.self.inside in
    (kept_undone r c.self.invariant c.pop.new.self.items c.in-Some.field-0 c.in-Some.ensures.items c.index-count.result.now c.index_mut.result.now c.index-count.ensures c.index_mut.ensures.value
    (record { numbers = c.renumber.new.numbers; next = c.swap_next.new.next; sizes = with_item r.sizes c.in-Some.field-0.into (c.index_mut.result.now - c.index-count.result.now); merges = c.pop.new.self })
    c.renumber.ensures c.swap_next.ensures refl refl c.in-Some.ensures.capacity).0
    ∙ ap (λ (v : RingsView). length v.numbers) c.self.view_is
