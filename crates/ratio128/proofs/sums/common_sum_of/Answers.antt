use Rattle.std.proofs.Common.{rules, ◌≡◌, ◌*◌, ◌/◌, ◌^◌, ◌<◌, pos, ◌*ℤ◌, unsigned_abs, refl, sym, ◌∙◌, ap, subst}
use Rattle.std.proofs.lemmas.Int.{to_z-of_z}
use mir.Syntax.{w128}
use mir.Val.{SFits}
use Rattle.spec_numbers.specs.Fractions.{gcd, plus}
use Rattle.spec_numbers.proofs.Field.{plus-reduced}
use Rattle.ratio128.specs.Meant.{fraction}
use Rattle.ratio128.proofs.SumParts.{sum_is}
use Rattle.ratio128.proofs.Bounded.{left_wide, right_wide, total_wide, result_wide, den_wide, sum_fits_true, common_is, over_small, reduced, parts_of, fits_parts}
use Rattle.ratio128.proofs.sums.common_sum_of.Goals as goal

pub returns-in_err-left : goal.returns-in_err-left
returns-in_err-left c =
    let f : SFits w128 c.args.a.num = search rules in
    let g : SFits w128 c.args.b.num = search rules in
    let h = simp to_z-of_z at c.in_err-left.ensures in
    rw c.from_residual.ensures (left_wide (fraction c.args.a) (fraction c.args.b) c.gcd_of-shared.result c.gcd_of-shared.ensures.value (λ k. h (subst (λ n. unsigned_abs (c.args.a.num *ℤ pos n) < 2 ^ 127) (sym c.quotient_of.ensures) k)))

pub returns-in_err-right : goal.returns-in_err-right
returns-in_err-right c =
    let f : SFits w128 c.args.a.num = search rules in
    let g : SFits w128 c.args.b.num = search rules in
    let h = simp to_z-of_z at c.in_err-right.ensures in
    rw c.from_residual-in_err-right.ensures (right_wide (fraction c.args.a) (fraction c.args.b) c.gcd_of-shared.result c.gcd_of-shared.ensures.value (λ k. h (subst (λ n. unsigned_abs (c.args.b.num *ℤ pos n) < 2 ^ 127) (sym c.quotient_of-2.ensures) k)))

pub returns-in_err-sum : goal.returns-in_err-sum
returns-in_err-sum c =
    let f : SFits w128 c.args.a.num = search rules in
    let g : SFits w128 c.args.b.num = search rules in
    let ln : SFits w128 c.in_ok-left.left = search rules in
    let rn : SFits w128 c.in_ok-right.right = search rules in
    let l = simp to_z-of_z at c.in_ok-left.ensures in
    let r = simp to_z-of_z at c.in_ok-right.ensures in
    let left_is = l.1 ∙ ap (λ n. c.args.a.num *ℤ pos n) c.quotient_of.ensures in
    let right_is = r.1 ∙ ap (λ n. c.args.b.num *ℤ pos n) c.quotient_of-2.ensures in
    let h = simp to_z-of_z at c.in_err-sum.ensures in
    let common = common_is (fraction c.args.a) (fraction c.args.b) c.gcd_of-shared.result c.in_ok-left.left c.in_ok-right.right _ c.gcd_of-shared.ensures.value left_is right_is refl in
    rw c.from_residual-in_err-sum.ensures (total_wide (fraction c.args.a) (fraction c.args.b) (subst (λ z. unsigned_abs z < 2 ^ 127 → ⊥) common h))

pub returns-in_err-den : goal.returns-in_err-den
returns-in_err-den c =
    let f : SFits w128 c.args.a.num = search rules in
    let g : SFits w128 c.args.b.num = search rules in
    let ln : SFits w128 c.in_ok-left.left = search rules in
    let rn : SFits w128 c.in_ok-right.right = search rules in
    let l = simp to_z-of_z at c.in_ok-left.ensures in
    let r = simp to_z-of_z at c.in_ok-right.ensures in
    let left_is = l.1 ∙ ap (λ n. c.args.a.num *ℤ pos n) c.quotient_of.ensures in
    let right_is = r.1 ∙ ap (λ n. c.args.b.num *ℤ pos n) c.quotient_of-2.ensures in
    let sn : SFits w128 c.in_ok-sum.sum = search rules in
    let s = simp to_z-of_z at c.in_ok-sum.ensures in
    let sum_small : unsigned_abs c.in_ok-sum.sum < 2 ^ 127 = rw s.1 s.0 in
    let size = simp to_z-of_z at c.unsigned_abs.ensures.value in
    let common = common_is (fraction c.args.a) (fraction c.args.b) c.gcd_of-shared.result c.in_ok-left.left c.in_ok-right.right c.in_ok-sum.sum c.gcd_of-shared.ensures.value left_is right_is s.1 in
    let k : c.gcd_of-common.result ≡ gcd (unsigned_abs c.in_ok-sum.sum) c.gcd_of-shared.result = c.gcd_of-common.ensures.value ∙ ap (λ t. gcd t c.gcd_of-shared.result) size in
    let is = sum_is (fraction c.args.a) (fraction c.args.b) (reduced c.args.a) (reduced c.args.b) c.gcd_of-shared.result c.gcd_of-common.result c.in_ok-sum.sum
    c.gcd_of-shared.ensures.value common k in
    let shares : c.quotient_of-3.result * c.quotient_of-4.result ≡ (c.args.a.den / c.gcd_of-shared.result) * (c.args.b.den / c.gcd_of-common.result) = λ i. c.quotient_of-3.ensures i * c.quotient_of-4.ensures i in
    rw c.from_residual-in_err-den.ensures
    (result_wide (fraction c.args.a) (fraction c.args.b) (den_wide (plus (fraction c.args.a) (fraction c.args.b)) (λ h. c.in_err-den.ensures (subst (λ n. n < 2 ^ 127) (sym shares) (subst (λ x. x.den < 2 ^ 127) is h)))))

pub invariant_of-result : goal.invariant_of-result
invariant_of-result c =
    let f : SFits w128 c.args.a.num = search rules in
    let g : SFits w128 c.args.b.num = search rules in
    let ln : SFits w128 c.in_ok-left.left = search rules in
    let rn : SFits w128 c.in_ok-right.right = search rules in
    let l = simp to_z-of_z at c.in_ok-left.ensures in
    let r = simp to_z-of_z at c.in_ok-right.ensures in
    let left_is = l.1 ∙ ap (λ n. c.args.a.num *ℤ pos n) c.quotient_of.ensures in
    let right_is = r.1 ∙ ap (λ n. c.args.b.num *ℤ pos n) c.quotient_of-2.ensures in
    let sn : SFits w128 c.in_ok-sum.sum = search rules in
    let s = simp to_z-of_z at c.in_ok-sum.ensures in
    let sum_small : unsigned_abs c.in_ok-sum.sum < 2 ^ 127 = rw s.1 s.0 in
    let size = simp to_z-of_z at c.unsigned_abs.ensures.value in
    let common = common_is (fraction c.args.a) (fraction c.args.b) c.gcd_of-shared.result c.in_ok-left.left c.in_ok-right.right c.in_ok-sum.sum c.gcd_of-shared.ensures.value left_is right_is s.1 in
    let k : c.gcd_of-common.result ≡ gcd (unsigned_abs c.in_ok-sum.sum) c.gcd_of-shared.result = c.gcd_of-common.ensures.value ∙ ap (λ t. gcd t c.gcd_of-shared.result) size in
    let is = sum_is (fraction c.args.a) (fraction c.args.b) (reduced c.args.a) (reduced c.args.b) c.gcd_of-shared.result c.gcd_of-common.result c.in_ok-sum.sum
    c.gcd_of-shared.ensures.value common k in
    let cn : SFits w128 c.cut.result = search rules in
    let q = simp to_z-of_z at c.cut.ensures in
    let d = c.in_ok-den.ensures in
    let shares : c.quotient_of-3.result * c.quotient_of-4.result ≡ (c.args.a.den / c.gcd_of-shared.result) * (c.args.b.den / c.gcd_of-common.result) = λ i. c.quotient_of-3.ensures i * c.quotient_of-4.ensures i in
    let whole = is ∙ (λ i. record { num = sym q i; den = sym (d.1 ∙ shares) i }) in
    let small : unsigned_abs c.cut.result < 2 ^ 127 = rw q (over_small c.in_ok-sum.sum c.gcd_of-common.result sum_small) in
    let den_small : c.in_ok-den.den < 2 ^ 127 = rw d.1 d.0 in
    record { parts = rw to_z-of_z (parts_of (plus (fraction c.args.a) (fraction c.args.b)) c.cut.result c.in_ok-den.den (plus-reduced _ _ c.args.a.parts.positive c.args.b.parts.positive) whole small den_small) }

pub returns : goal.returns
returns c =
    let f : SFits w128 c.args.a.num = search rules in
    let g : SFits w128 c.args.b.num = search rules in
    let ln : SFits w128 c.in_ok-left.left = search rules in
    let rn : SFits w128 c.in_ok-right.right = search rules in
    let l = simp to_z-of_z at c.in_ok-left.ensures in
    let r = simp to_z-of_z at c.in_ok-right.ensures in
    let left_is = l.1 ∙ ap (λ n. c.args.a.num *ℤ pos n) c.quotient_of.ensures in
    let right_is = r.1 ∙ ap (λ n. c.args.b.num *ℤ pos n) c.quotient_of-2.ensures in
    let sn : SFits w128 c.in_ok-sum.sum = search rules in
    let s = simp to_z-of_z at c.in_ok-sum.ensures in
    let sum_small : unsigned_abs c.in_ok-sum.sum < 2 ^ 127 = rw s.1 s.0 in
    let size = simp to_z-of_z at c.unsigned_abs.ensures.value in
    let common = common_is (fraction c.args.a) (fraction c.args.b) c.gcd_of-shared.result c.in_ok-left.left c.in_ok-right.right c.in_ok-sum.sum c.gcd_of-shared.ensures.value left_is right_is s.1 in
    let k : c.gcd_of-common.result ≡ gcd (unsigned_abs c.in_ok-sum.sum) c.gcd_of-shared.result = c.gcd_of-common.ensures.value ∙ ap (λ t. gcd t c.gcd_of-shared.result) size in
    let is = sum_is (fraction c.args.a) (fraction c.args.b) (reduced c.args.a) (reduced c.args.b) c.gcd_of-shared.result c.gcd_of-common.result c.in_ok-sum.sum
    c.gcd_of-shared.ensures.value common k in
    let cn : SFits w128 c.cut.result = search rules in
    let q = simp to_z-of_z at c.cut.ensures in
    let d = c.in_ok-den.ensures in
    let shares : c.quotient_of-3.result * c.quotient_of-4.result ≡ (c.args.a.den / c.gcd_of-shared.result) * (c.args.b.den / c.gcd_of-common.result) = λ i. c.quotient_of-3.ensures i * c.quotient_of-4.ensures i in
    let whole = is ∙ (λ i. record { num = sym q i; den = sym (d.1 ∙ shares) i }) in
    let small : unsigned_abs c.cut.result < 2 ^ 127 = rw q (over_small c.in_ok-sum.sum c.gcd_of-common.result sum_small) in
    let den_small : c.in_ok-den.den < 2 ^ 127 = rw d.1 d.0 in
    let fit = fits_parts (plus (fraction c.args.a) (fraction c.args.b)) c.cut.result c.in_ok-den.den whole small den_small in (
      sum_fits_true (fraction c.args.a) (fraction c.args.b) c.gcd_of-shared.result c.gcd_of-shared.ensures.value (subst (λ n. unsigned_abs (c.args.a.num *ℤ pos n) < 2 ^ 127) c.quotient_of.ensures l.0)
          (subst (λ n. unsigned_abs (c.args.b.num *ℤ pos n) < 2 ^ 127) c.quotient_of-2.ensures r.0) (subst (λ z. unsigned_abs z < 2 ^ 127) common (rw s.1 s.0)) fit,
      (λ i. record { num = to_z-of_z w128 c.cut.result cn i; den = c.in_ok-den.den }) ∙ sym whole,
    )
