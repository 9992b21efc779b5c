use Rattle.std.proofs.Common.{rules, ◌+ℤ◌, sym, ◌∙◌}
use Rattle.std.proofs.lemmas.Int.{to_z-of_z}
use mir.Syntax.{w128}
use mir.Val.{SFits}
use Rattle.spec_numbers.specs.Fractions.{plus}
use Rattle.ratio128.specs.Meant.{fraction}
use Rattle.ratio128.proofs.Bounded.{as_whole, whole_parts, whole_sum_wide, whole_sum_fits, whole_sum}
use Rattle.ratio128.proofs.sums.sum_of.Goals as goal

pub returns-in_err-num : goal.returns-in_err-num
returns-in_err-num c =
    let f : SFits w128 c.args.a.num = search rules in
    let g : SFits w128 c.args.b.num = search rules in
    let h = simp to_z-of_z at c.in_err-num.ensures in
    rw (c.from_residual.ensures, as_whole (fraction c.args.a) (search rules), as_whole (fraction c.args.b) (search rules)) (whole_sum_wide c.args.a.num c.args.b.num h)

pub invariant_of-result : goal.invariant_of-result
invariant_of-result c =
    let f : SFits w128 c.args.a.num = search rules in
    let g : SFits w128 c.args.b.num = search rules in
    let n : SFits w128 c.in_ok-num.num = search rules in
    let h = simp to_z-of_z at c.in_ok-num.ensures in
    record { parts = rw (to_z-of_z, h.1) (whole_parts (c.args.a.num +ℤ c.args.b.num) h.0) }

pub returns-then-are_whole : goal.returns-then-are_whole
returns-then-are_whole c =
    let f : SFits w128 c.args.a.num = search rules in
    let g : SFits w128 c.args.b.num = search rules in
    let n : SFits w128 c.in_ok-num.num = search rules in
    let h = simp to_z-of_z at c.in_ok-num.ensures in
    let a = as_whole (fraction c.args.a) (search rules) in
    let b = as_whole (fraction c.args.b) (search rules) in (
      rw (a, b) (whole_sum_fits c.args.a.num c.args.b.num c.args.a.parts.num_fits c.args.b.parts.num_fits h.0),
      (λ i. record { num = (to_z-of_z w128 c.in_ok-num.num n ∙ h.1) i; den = 1 }) ∙ sym (whole_sum c.args.a.num c.args.b.num) ∙ (λ i. plus (sym a i) (sym b i)),
    )
