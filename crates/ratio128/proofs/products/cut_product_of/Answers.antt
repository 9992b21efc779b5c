use Rattle.std.proofs.Common.{rules, ◌≡◌, ◌*◌, ◌/◌, ◌<◌, ◌^◌, ◌*ℤ◌, unsigned_abs, sym, ◌∙◌, ap, subst}
use Rattle.std.proofs.lemmas.Int.{to_z-of_z}
use mir.Syntax.{w128}
use mir.Val.{SFits}
use Rattle.spec_numbers.specs.Fractions.{gcd, times}
use Rattle.spec_numbers.proofs.Field.{times-reduced}
use Rattle.ratio128.specs.Meant.{fraction}
use Rattle.ratio128.proofs.ProductParts.{product_is}
use Rattle.ratio128.proofs.Bounded.{num_wide, den_wide, reduced, parts_of, fits_parts}
use Rattle.ratio128.proofs.products.cut_product_of.Goals as goal

pub returns-in_err-num : goal.returns-in_err-num
returns-in_err-num c =
    let f : SFits w128 c.args.a.num = search rules in
    let g : SFits w128 c.args.b.num = search rules in
    let size = simp to_z-of_z at c.unsigned_abs.ensures.value in
    let size-2 = simp to_z-of_z at c.unsigned_abs-2.ensures.value in
    let p : c.gcd_of-first.result ≡ gcd (unsigned_abs c.args.a.num) c.args.b.den = c.gcd_of-first.ensures.value ∙ ap (λ t. gcd t c.args.b.den) size in
    let q : c.gcd_of-second.result ≡ gcd (unsigned_abs c.args.b.num) c.args.a.den = c.gcd_of-second.ensures.value ∙ ap (λ t. gcd t c.args.a.den) size-2 in
    let an : SFits w128 c.cut.result = search rules in
    let bn : SFits w128 c.cut-2.result = search rules in
    let left = simp to_z-of_z at c.cut.ensures in
    let right = simp to_z-of_z at c.cut-2.ensures in
    let whole = product_is (fraction c.args.a) (fraction c.args.b) (reduced c.args.a) (reduced c.args.b) c.gcd_of-first.result c.gcd_of-second.result p q
    ∙ (λ i. record { num = sym left i *ℤ sym right i; den = (c.args.a.den / c.gcd_of-second.result) * (c.args.b.den / c.gcd_of-first.result) }) in
    rw c.from_residual.ensures (num_wide (times (fraction c.args.a) (fraction c.args.b)) (λ h. (simp to_z-of_z at c.in_err-num.ensures) (subst (λ x. unsigned_abs x.num < 2 ^ 127) whole h)))

pub returns-in_err-den : goal.returns-in_err-den
returns-in_err-den c =
    let f : SFits w128 c.args.a.num = search rules in
    let g : SFits w128 c.args.b.num = search rules in
    let size = simp to_z-of_z at c.unsigned_abs.ensures.value in
    let size-2 = simp to_z-of_z at c.unsigned_abs-2.ensures.value in
    let p : c.gcd_of-first.result ≡ gcd (unsigned_abs c.args.a.num) c.args.b.den = c.gcd_of-first.ensures.value ∙ ap (λ t. gcd t c.args.b.den) size in
    let q : c.gcd_of-second.result ≡ gcd (unsigned_abs c.args.b.num) c.args.a.den = c.gcd_of-second.ensures.value ∙ ap (λ t. gcd t c.args.a.den) size-2 in
    let an : SFits w128 c.cut.result = search rules in
    let bn : SFits w128 c.cut-2.result = search rules in
    let left = simp to_z-of_z at c.cut.ensures in
    let right = simp to_z-of_z at c.cut-2.ensures in
    let whole = product_is (fraction c.args.a) (fraction c.args.b) (reduced c.args.a) (reduced c.args.b) c.gcd_of-first.result c.gcd_of-second.result p q
    ∙ (λ i. record { num = sym left i *ℤ sym right i; den = (c.args.a.den / c.gcd_of-second.result) * (c.args.b.den / c.gcd_of-first.result) }) in
    let shares : c.quotient_of.result * c.quotient_of-2.result ≡ (c.args.a.den / c.gcd_of-second.result) * (c.args.b.den / c.gcd_of-first.result) = λ i. c.quotient_of.ensures i * c.quotient_of-2.ensures i in
    rw c.from_residual-in_err-den.ensures (den_wide (times (fraction c.args.a) (fraction c.args.b)) (λ h. c.in_err-den.ensures (subst (λ n. n < 2 ^ 127) (sym shares) (subst (λ x. x.den < 2 ^ 127) whole h))))

pub invariant_of-result : goal.invariant_of-result
invariant_of-result c =
    let f : SFits w128 c.args.a.num = search rules in
    let g : SFits w128 c.args.b.num = search rules in
    let size = simp to_z-of_z at c.unsigned_abs.ensures.value in
    let size-2 = simp to_z-of_z at c.unsigned_abs-2.ensures.value in
    let p : c.gcd_of-first.result ≡ gcd (unsigned_abs c.args.a.num) c.args.b.den = c.gcd_of-first.ensures.value ∙ ap (λ t. gcd t c.args.b.den) size in
    let q : c.gcd_of-second.result ≡ gcd (unsigned_abs c.args.b.num) c.args.a.den = c.gcd_of-second.ensures.value ∙ ap (λ t. gcd t c.args.a.den) size-2 in
    let an : SFits w128 c.cut.result = search rules in
    let bn : SFits w128 c.cut-2.result = search rules in
    let left = simp to_z-of_z at c.cut.ensures in
    let right = simp to_z-of_z at c.cut-2.ensures in
    let whole = product_is (fraction c.args.a) (fraction c.args.b) (reduced c.args.a) (reduced c.args.b) c.gcd_of-first.result c.gcd_of-second.result p q
    ∙ (λ i. record { num = sym left i *ℤ sym right i; den = (c.args.a.den / c.gcd_of-second.result) * (c.args.b.den / c.gcd_of-first.result) }) in
    let n : SFits w128 c.in_ok-num.num = search rules in
    let h = simp to_z-of_z at c.in_ok-num.ensures in
    let d = c.in_ok-den.ensures in
    let shares : c.quotient_of.result * c.quotient_of-2.result ≡ (c.args.a.den / c.gcd_of-second.result) * (c.args.b.den / c.gcd_of-first.result) = λ i. c.quotient_of.ensures i * c.quotient_of-2.ensures i in
    let is = whole ∙ (λ i. record { num = sym h.1 i; den = sym (d.1 ∙ shares) i }) in
    let small : unsigned_abs c.in_ok-num.num < 2 ^ 127 = rw h.1 h.0 in
    let den_small : c.in_ok-den.den < 2 ^ 127 = rw d.1 d.0 in
    record { parts = rw to_z-of_z (parts_of (times (fraction c.args.a) (fraction c.args.b)) c.in_ok-num.num c.in_ok-den.den (times-reduced _ _ c.args.a.parts.positive c.args.b.parts.positive) is small den_small) }

pub returns : goal.returns
returns c =
    let f : SFits w128 c.args.a.num = search rules in
    let g : SFits w128 c.args.b.num = search rules in
    let size = simp to_z-of_z at c.unsigned_abs.ensures.value in
    let size-2 = simp to_z-of_z at c.unsigned_abs-2.ensures.value in
    let p : c.gcd_of-first.result ≡ gcd (unsigned_abs c.args.a.num) c.args.b.den = c.gcd_of-first.ensures.value ∙ ap (λ t. gcd t c.args.b.den) size in
    let q : c.gcd_of-second.result ≡ gcd (unsigned_abs c.args.b.num) c.args.a.den = c.gcd_of-second.ensures.value ∙ ap (λ t. gcd t c.args.a.den) size-2 in
    let an : SFits w128 c.cut.result = search rules in
    let bn : SFits w128 c.cut-2.result = search rules in
    let left = simp to_z-of_z at c.cut.ensures in
    let right = simp to_z-of_z at c.cut-2.ensures in
    let whole = product_is (fraction c.args.a) (fraction c.args.b) (reduced c.args.a) (reduced c.args.b) c.gcd_of-first.result c.gcd_of-second.result p q
    ∙ (λ i. record { num = sym left i *ℤ sym right i; den = (c.args.a.den / c.gcd_of-second.result) * (c.args.b.den / c.gcd_of-first.result) }) in
    let n : SFits w128 c.in_ok-num.num = search rules in
    let h = simp to_z-of_z at c.in_ok-num.ensures in
    let d = c.in_ok-den.ensures in
    let shares : c.quotient_of.result * c.quotient_of-2.result ≡ (c.args.a.den / c.gcd_of-second.result) * (c.args.b.den / c.gcd_of-first.result) = λ i. c.quotient_of.ensures i * c.quotient_of-2.ensures i in
    let is = whole ∙ (λ i. record { num = sym h.1 i; den = sym (d.1 ∙ shares) i }) in
    let small : unsigned_abs c.in_ok-num.num < 2 ^ 127 = rw h.1 h.0 in
    let den_small : c.in_ok-den.den < 2 ^ 127 = rw d.1 d.0 in (
      fits_parts (times (fraction c.args.a) (fraction c.args.b)) c.in_ok-num.num c.in_ok-den.den is small den_small,
      (λ i. record { num = to_z-of_z w128 c.in_ok-num.num n i; den = c.in_ok-den.den }) ∙ sym is,
    )
