use Rattle.std.proofs.Common.{rules, ◌/◌, ◌<◌, ◌^◌, unsigned_abs, sym, ◌∙◌, arith}
use Rattle.std.proofs.Math.Nat.{div-le_self}
use Rattle.std.proofs.lemmas.Int.{to_z-of_z}
use mir.Syntax.{w128}
use mir.Val.{SFits}
use Rattle.spec_numbers.specs.Fractions.{whole, divide}
use Rattle.ratio128.proofs.Bounded.{parts_of}
use Rattle.ratio128.proofs.QuotientParts.{of_is, quotient-reduced, signed_small}
use Rattle.ratio128.proofs.ratio.Ratio.of.Goals as goal

pub invariant_of-result : goal.invariant_of-result
invariant_of-result c =
    let f : SFits w128 c.args.num = search rules in
    let g : SFits w128 c.args.den = search rules in
    let n : SFits w128 c.signed.result = search rules in
    let k = simp to_z-of_z at c.signed.ensures in
    let t = simp to_z-of_z at c.unsigned_abs-top.ensures.value in
    let b = simp to_z-of_z at c.unsigned_abs-bottom.ensures.value in
    let is = of_is c.args.num c.args.den c.unsigned_abs-top.result c.unsigned_abs-bottom.result c.gcd_of-shared.result c.signed.result c.requires.not_zero t b c.gcd_of-shared.ensures.value k in
    let top : c.unsigned_abs-top.result < 2 ^ 127 = rw t c.requires.num_fits in
    let bottom : c.unsigned_abs-bottom.result < 2 ^ 127 = rw b c.requires.den_fits in
    let small : unsigned_abs c.signed.result < 2 ^ 127 = rw k (signed_small _ c.unsigned_abs-top.result c.gcd_of-shared.result top) in
    let den_small : c.unsigned_abs-bottom.result / c.gcd_of-shared.result < 2 ^ 127 = omega (arith, div-le_self c.unsigned_abs-bottom.result c.gcd_of-shared.result, bottom) in
    record { parts = rw to_z-of_z (parts_of (divide (whole c.args.num) (whole c.args.den)) c.signed.result (c.unsigned_abs-bottom.result / c.gcd_of-shared.result) (quotient-reduced c.args.num c.args.den) is small den_small) }

pub returns : goal.returns
returns c =
    let f : SFits w128 c.args.num = search rules in
    let g : SFits w128 c.args.den = search rules in
    let n : SFits w128 c.signed.result = search rules in
    let k = simp to_z-of_z at c.signed.ensures in
    let t = simp to_z-of_z at c.unsigned_abs-top.ensures.value in
    let b = simp to_z-of_z at c.unsigned_abs-bottom.ensures.value in
    let is = of_is c.args.num c.args.den c.unsigned_abs-top.result c.unsigned_abs-bottom.result c.gcd_of-shared.result c.signed.result c.requires.not_zero t b c.gcd_of-shared.ensures.value k in
    (λ i. record { num = to_z-of_z w128 c.signed.result n i; den = c.unsigned_abs-bottom.result / c.gcd_of-shared.result }) ∙ sym is
