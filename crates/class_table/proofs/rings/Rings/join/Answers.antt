-- The rows are what one merge more makes of them.
use Rattle.std.proofs.Common.{arith, ◌∙◌, ◌+◌, refl, sym, ap, subst}
use Rattle.std.specs.Vec.{with_item}
use Rattle.class_table.specs.declared.rings.Merge.{Merge}
use Rattle.class_table.specs.Classes.{renumbered}
use Rattle.class_table.specs.Rings.{RingsView, Joins}
use Rattle.class_table.proofs.Kept.{kept_whole, next_inside, room_left, sizes_fit, kept_joined}
use Rattle.class_table.proofs.rings.Rings.join.Goals as goal

pub index-count-requires : goal.index-count-requires
index-count-requires c =
    let r = c.self.inside in
    let j = subst (λ (v : RingsView). Joins v.numbers (record { from = c.args.from; into = c.args.into })) (sym c.self.view_is) c.requires in
    omega (arith, j.from_in, (kept_whole r c.self.invariant).sizes_long, r.sizes.ok.0)

pub renumber-requires-clause-sized : goal.renumber-requires-clause-sized
renumber-requires-clause-sized c = sym (kept_whole c.self.inside c.self.invariant).next_long

pub renumber-requires-clause-inside : goal.renumber-requires-clause-inside
renumber-requires-clause-inside c = next_inside c.self.inside c.self.invariant

pub renumber-requires-clause-start : goal.renumber-requires-clause-start
renumber-requires-clause-start c =
    let j = subst (λ (v : RingsView). Joins v.numbers (record { from = c.args.from; into = c.args.into })) (sym c.self.view_is) c.requires in
    omega (arith, j.from_in, (kept_whole c.self.inside c.self.invariant).next_long)

pub swap_next-requires-clause-a : goal.swap_next-requires-clause-a
swap_next-requires-clause-a c =
    let j = subst (λ (v : RingsView). Joins v.numbers (record { from = c.args.from; into = c.args.into })) (sym c.self.view_is) c.requires in
    omega (arith, j.from_in, (kept_whole c.self.inside c.self.invariant).next_long)

pub swap_next-requires-clause-b : goal.swap_next-requires-clause-b
swap_next-requires-clause-b c =
    let j = subst (λ (v : RingsView). Joins v.numbers (record { from = c.args.from; into = c.args.into })) (sym c.self.view_is) c.requires in
    omega (arith, j.into_in, (kept_whole c.self.inside c.self.invariant).next_long)

pub index_mut-requires : goal.index_mut-requires
index_mut-requires c =
    let r = c.self.inside in
    let j = subst (λ (v : RingsView). Joins v.numbers (record { from = c.args.from; into = c.args.into })) (sym c.self.view_is) c.requires in
    omega (arith, j.into_in, (kept_whole r c.self.invariant).sizes_long, r.sizes.ok.0)

pub overflow_add-index_mut : goal.overflow_add-index_mut
overflow_add-index_mut c =
    let r = c.self.inside in
    let m : Merge = record { from = c.args.from; into = c.args.into } in
    let j = subst (λ (v : RingsView). Joins v.numbers m) (sym c.self.view_is) c.requires in
    omega (arith, sizes_fit r c.self.invariant m j c.index-count.result.now c.index_mut.result.now c.index-count.ensures c.index_mut.ensures.value, r.numbers.ok.0)

pub push_reserved-requires : goal.push_reserved-requires
push_reserved-requires c =
    let r = c.self.inside in
    let m : Merge = record { from = c.args.from; into = c.args.into } in
    let j = subst (λ (v : RingsView). Joins v.numbers m) (sym c.self.view_is) c.requires in
    omega (arith, room_left r c.self.invariant m j, r.merges.ok.0)

pub invariant_of-self : goal.invariant_of-self
invariant_of-self c =
    let r = c.self.inside in
    let m : Merge = record { from = c.args.from; into = c.args.into } in
    let j = subst (λ (v : RingsView). Joins v.numbers m) (sym c.self.view_is) c.requires in
    (kept_joined r c.self.invariant m j c.index-count.result.now c.index_mut.result.now c.index-count.ensures c.index_mut.ensures.value
    (record { numbers = c.renumber.new.numbers; next = c.swap_next.new.next; sizes = with_item r.sizes c.args.into (c.index_mut.result.now + c.index-count.result.now); merges = c.push_reserved.new.self })
    c.renumber.ensures c.swap_next.ensures refl c.push_reserved.ensures.items c.push_reserved.ensures.capacity).1

pub returns-clause-numbers : goal.returns-clause-numbers
returns-clause-numbers c =
    let r = c.self.inside in
    let m : Merge = record { from = c.args.from; into = c.args.into } in
    let j = subst (λ (v : RingsView). Joins v.numbers m) (sym c.self.view_is) c.requires in
    (kept_joined r c.self.invariant m j c.index-count.result.now c.index_mut.result.now c.index-count.ensures c.index_mut.ensures.value
    (record { numbers = c.renumber.new.numbers; next = c.swap_next.new.next; sizes = with_item r.sizes c.args.into (c.index_mut.result.now + c.index-count.result.now); merges = c.push_reserved.new.self })
    c.renumber.ensures c.swap_next.ensures refl c.push_reserved.ensures.items c.push_reserved.ensures.capacity).0
    ∙ ap (λ (v : RingsView). renumbered c.args.from c.args.into v.numbers) c.self.view_is
