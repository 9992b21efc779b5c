-- By its digits.
use Rattle.std.proofs.Common.{◌≡◌, suc, ◌+◌, ◌^◌, ◌%◌, ◌/◌, ◌≤◌, ◌<◌, ◌∷◌, ◌++◌, length, sym, ap, ◌∙◌, arith}
use Rattle.std.specs.Prelude.{decimal}
use Rattle.std.proofs.Math.Nat.{mod-lt, div-le_self}
use Rattle.spec_models.specs.Values.{numeral}
use Rattle.spec_proof_texts.specs.Decimals.{last_digits}
use Rattle.world_io.proofs.Sending.{sends_same}
use Rattle.alethe_writer.proofs.Decimals.{padded, behind, power_small, power_some}
use Rattle.alethe_writer.proofs.numbers.write_decimal.Goals as goal

pub nonzero_div-d : goal.nonzero_div-d
nonzero_div-d g c = omega (arith, c.requires.power.1, power_some c.args.d.places)

pub nonzero_rem-d : goal.nonzero_rem-d
nonzero_rem-d g c = omega (arith, c.requires.power.1, power_some c.args.d.places)

pub overflow_add-d : goal.overflow_add-d
overflow_add-d g c =
    let k = c.args.d.places in
    let some : 0 < c.args.d.power = omega (arith, c.requires.power.1, power_some k) in
    omega (arith, mod-lt c.args.d.units some, c.requires.power.1, power_small k c.requires.power.0)

pub slice_bounds-write_pieces-count : goal.slice_bounds-write_pieces-count
slice_bounds-write_pieces-count g c =
    let k = c.args.d.places in
    let same : c.args.d.power + c.args.d.units % c.args.d.power ≡ 10 ^ k + c.args.d.units % 10 ^ k = ap (λ p. p + c.args.d.units % p) c.requires.power.1 in
    let text : c.as_bytes-digits.result.now ≡ 49 ∷ last_digits k c.args.d.units =
    c.as_bytes-digits.ensures.value ∙ c.format-2.ensures.text ∙ ap decimal same ∙ padded k c.args.d.units c.requires.power.0 in
    let long : length c.as_bytes-digits.result.now ≡ suc (length (last_digits k c.args.d.units)) = ap length text in
    omega (arith, long)

pub slice_bounds-write_pieces-start : goal.slice_bounds-write_pieces-start
slice_bounds-write_pieces-start g c =
    let k = c.args.d.places in
    let same : c.args.d.power + c.args.d.units % c.args.d.power ≡ 10 ^ k + c.args.d.units % 10 ^ k = ap (λ p. p + c.args.d.units % p) c.requires.power.1 in
    let text : c.as_bytes-digits.result.now ≡ 49 ∷ last_digits k c.args.d.units =
    c.as_bytes-digits.ensures.value ∙ c.format-2.ensures.text ∙ ap decimal same ∙ padded k c.args.d.units c.requires.power.0 in
    let long : length c.as_bytes-digits.result.now ≡ suc (length (last_digits k c.args.d.units)) = ap length text in
    omega (arith, long)

pub returns : goal.returns
returns g c =
    let k = c.args.d.places in
    let u = c.args.d.units in
    let same : c.args.d.power + u % c.args.d.power ≡ 10 ^ k + u % 10 ^ k = ap (λ p. p + u % p) c.requires.power.1 in
    let text : c.as_bytes-digits.result.now ≡ 49 ∷ last_digits k u =
    c.as_bytes-digits.ensures.value ∙ c.format-2.ensures.text ∙ ap decimal same ∙ padded k u c.requires.power.0 in
    let some : 1 ≤ 10 ^ k = power_some k in
    let small : u / 10 ^ k < 10 ^ 64 = omega (arith, div-le_self u (10 ^ k), c.requires.small) in
    let front : c.as_bytes-whole.result.now ≡ numeral (u / 10 ^ k) =
    c.as_bytes-whole.ensures.value ∙ c.format.ensures.text ∙ ap (λ p. decimal (u / p)) c.requires.power.1 ∙ sym (c.numerals_are_decimal.ensures (u / 10 ^ k) small) in
    let digits = behind k u c.as_bytes-digits.result.now c.if-d-eq0.false text in
    sends_same _ _ c.write_pieces.result _ _ (λ i. 32 ∷ (front i ++ digits i)) c.write_pieces.ensures
