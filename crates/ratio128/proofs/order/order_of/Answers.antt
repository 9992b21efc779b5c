use Rattle.std.proofs.Common.{rules, ◌*◌, ◌∙◌}
use Rattle.std.specs.Ordering.{nat_cmp}
use Rattle.std.proofs.lemmas.Int.{to_z-of_z}
use mir.Syntax.{w128}
use mir.Val.{SFits}
use Rattle.spec_numbers.specs.Fractions.{compare}
use Rattle.ratio128.proofs.Comparisons.{same_den, both_above, both_below, left_below, right_below}
use Rattle.ratio128.proofs.order.order_of.Goals as goal

pub returns-then-a-b : goal.returns-then-a-b
unfolding compare
returns-then-a-b c =
    c.cmp.ensures ∙ same_den c.args.a.num c.args.b.num c.args.a.den c.args.b.den c.args.a.parts.positive c.if-a-b.true

pub returns-in-true-true : goal.returns-in-true-true
unfolding compare
returns-in-true-true c =
    let f : SFits w128 c.args.a.num = search rules in
    let g : SFits w128 c.args.b.num = search rules in
    let h = simp to_z-of_z at c.in-true-true.is-0 in
    let k = simp to_z-of_z at c.in-true-true.is-1 in
    let l = simp to_z-of_z at c.unsigned_abs-left.ensures.value in
    let r = simp to_z-of_z at c.unsigned_abs-right.ensures.value in
    c.order_of_products.ensures ∙ (λ i. nat_cmp (r i * c.args.a.den) (l i * c.args.b.den)) ∙ both_below c.args.a.num c.args.b.num c.args.a.den c.args.b.den h k

pub returns-in-true-false : goal.returns-in-true-false
unfolding compare
returns-in-true-false c =
    let f : SFits w128 c.args.a.num = search rules in
    let g : SFits w128 c.args.b.num = search rules in
    let h = simp to_z-of_z at c.in-true-false.is-0 in
    let k = simp to_z-of_z at c.in-true-false.is-1 in
    left_below c.args.a.num c.args.b.num c.args.a.den c.args.b.den c.args.b.parts.positive h k

pub returns-in-false-true : goal.returns-in-false-true
unfolding compare
returns-in-false-true c =
    let f : SFits w128 c.args.a.num = search rules in
    let g : SFits w128 c.args.b.num = search rules in
    let h = simp to_z-of_z at c.in-false-true.is-0 in
    let k = simp to_z-of_z at c.in-false-true.is-1 in
    right_below c.args.a.num c.args.b.num c.args.a.den c.args.b.den c.args.a.parts.positive h k

pub returns-in-false-false : goal.returns-in-false-false
unfolding compare
returns-in-false-false c =
    let f : SFits w128 c.args.a.num = search rules in
    let g : SFits w128 c.args.b.num = search rules in
    let h = simp to_z-of_z at c.in-false-false.is-0 in
    let k = simp to_z-of_z at c.in-false-false.is-1 in
    let l = simp to_z-of_z at c.unsigned_abs-left.ensures.value in
    let r = simp to_z-of_z at c.unsigned_abs-right.ensures.value in
    c.order_of_products-in-false-false.ensures ∙ (λ i. nat_cmp (l i * c.args.b.den) (r i * c.args.a.den)) ∙ both_above c.args.a.num c.args.b.num c.args.a.den c.args.b.den h k
