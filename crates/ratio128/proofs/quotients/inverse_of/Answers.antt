use Rattle.std.proofs.Common.{rules, ◌<◌, ◌^◌, unsigned_abs, sym, ◌∙◌}
use Rattle.std.proofs.lemmas.Int.{to_z-of_z}
use mir.Syntax.{w128}
use mir.Val.{SFits}
use Rattle.spec_numbers.specs.Fractions.{inverse}
use Rattle.spec_numbers.proofs.Signs.{abs-signed}
use Rattle.spec_numbers.proofs.Field.{inverse-reduced}
use Rattle.ratio128.specs.Meant.{fraction}
use Rattle.ratio128.proofs.Bounded.{reduced, parts_of}
use Rattle.ratio128.proofs.QuotientParts.{inverse_is}
use Rattle.ratio128.proofs.quotients.inverse_of.Goals as goal

pub invariant_of-result : goal.invariant_of-result
invariant_of-result c =
    let f : SFits w128 c.args.a.num = search rules in
    let n : SFits w128 c.signed.result = search rules in
    let k = simp to_z-of_z at c.signed.ensures in
    let m = simp to_z-of_z at c.unsigned_abs.ensures.value in
    let is = inverse_is (fraction c.args.a) (reduced c.args.a) c.requires ∙ (λ i. record { num = sym k i; den = sym m i }) in
    let small : unsigned_abs c.signed.result < 2 ^ 127 = rw (k, abs-signed) c.args.a.parts.den_fits in
    let den_small : c.unsigned_abs.result < 2 ^ 127 = rw m c.args.a.parts.num_fits in
    record { parts = rw to_z-of_z (parts_of (inverse (fraction c.args.a)) c.signed.result c.unsigned_abs.result (inverse-reduced (fraction c.args.a) (reduced c.args.a)) is small den_small) }

pub returns : goal.returns
returns c =
    let f : SFits w128 c.args.a.num = search rules in
    let n : SFits w128 c.signed.result = search rules in
    let k = simp to_z-of_z at c.signed.ensures in
    let m = simp to_z-of_z at c.unsigned_abs.ensures.value in
    let is = inverse_is (fraction c.args.a) (reduced c.args.a) c.requires ∙ (λ i. record { num = sym k i; den = sym m i }) in
    (λ i. record { num = to_z-of_z w128 c.signed.result n i; den = c.unsigned_abs.result }) ∙ sym is
