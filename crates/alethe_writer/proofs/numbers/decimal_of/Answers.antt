-- By its digits.
use Rattle.std.proofs.Common.{◌≡◌, ◌*◌, ◌^◌, ◌%◌, ◌/◌, ◌<◌, false, pos, to_z, of_z, sym, ap, ◌∙◌, arith, subst}
use Rattle.std.specs.Prelude.{unsigned_abs}
use Rattle.std.specs.Int.{w128}
use Rattle.std.specs.Int.Signed.{lt_z}
use Rattle.std.proofs.Math.Facts.{to_z-of_z}
use Rattle.ratio128.specs.Meant.{fraction}
use Rattle.spec_proof_texts.specs.Decimals.{places, in_last_place, is_below_zero}
use Rattle.alethe_writer.specs.Digits.{IsDecimalOf}
use Rattle.alethe_writer.proofs.Decimals.{units_are, below_zero, places_are, none_below, none_with_rest, none_so_large, decimal_there}
use Rattle.alethe_writer.proofs.numbers.decimal_of.Goals as goal

pub returns-then-num-lt0 : goal.returns-then-num-lt0
returns-then-num-lt0 c =
    let num : to_z w128 (of_z w128 c.num.result) ≡ c.args.q.num = to_z-of_z {w = w128} {z = c.num.result} (record { sfits = c.num.type_inv }) ∙ c.num.ensures in
    none_below (fraction c.args.q) (sym (below_zero c.args.q.num) ∙ ap (λ z. lt_z z (pos 0)) (sym num) ∙ c.if-num-lt0.true)

pub returns-then-power-den-ne0 : goal.returns-then-power-den-ne0
returns-then-power-den-ne0 c =
    let den : c.unsigned_abs-den.result ≡ c.args.q.den = c.unsigned_abs-den.ensures.value ∙ ap unsigned_abs (to_z-of_z {w = w128} {z = c.den.result} (record { sfits = c.den.type_inv }) ∙ c.den.ensures) in
    let here = places_are (fraction c.args.q) c.places_of-places.result.0 c.unsigned_abs-den.result den c.places_of-places.ensures.1 in
    none_with_rest (fraction c.args.q) (λ e. c.if-power-den-ne0.true ((λ i. (c.places_of-places.ensures.0.1 ∙ ap (λ n. 10 ^ n) here) i % den i) ∙ e))

pub returns-in_err-units : goal.returns-in_err-units
returns-in_err-units c =
    let den : c.unsigned_abs-den.result ≡ c.args.q.den = c.unsigned_abs-den.ensures.value ∙ ap unsigned_abs (to_z-of_z {w = w128} {z = c.den.result} (record { sfits = c.den.type_inv }) ∙ c.den.ensures) in
    let num : c.unsigned_abs.result ≡ unsigned_abs c.args.q.num = c.unsigned_abs.ensures.value ∙ ap unsigned_abs (to_z-of_z {w = w128} {z = c.num-2.result} (record { sfits = c.num-2.type_inv }) ∙ c.num-2.ensures) in
    let here = places_are (fraction c.args.q) c.places_of-places.result.0 c.unsigned_abs-den.result den c.places_of-places.ensures.1 in
    let power : c.places_of-places.result.1 ≡ 10 ^ places (fraction c.args.q) = c.places_of-places.ensures.0.1 ∙ ap (λ n. 10 ^ n) here in
    let units : c.unsigned_abs.result * (c.places_of-places.result.1 / c.unsigned_abs-den.result) ≡ in_last_place (fraction c.args.q) =
    units_are c.unsigned_abs.result c.places_of-places.result.1 c.unsigned_abs-den.result c.if-power-den-ne0.false ∙ (λ i. num i * power i / den i) in
    subst (IsDecimalOf (fraction c.args.q)) (sym c.from_residual.ensures) (none_so_large (fraction c.args.q) (omega (arith, units, c.in_err-units.ensures)))

pub returns-then-units : goal.returns-then-units
returns-then-units c =
    let den : c.unsigned_abs-den.result ≡ c.args.q.den = c.unsigned_abs-den.ensures.value ∙ ap unsigned_abs (to_z-of_z {w = w128} {z = c.den.result} (record { sfits = c.den.type_inv }) ∙ c.den.ensures) in
    let num : c.unsigned_abs.result ≡ unsigned_abs c.args.q.num = c.unsigned_abs.ensures.value ∙ ap unsigned_abs (to_z-of_z {w = w128} {z = c.num-2.result} (record { sfits = c.num-2.type_inv }) ∙ c.num-2.ensures) in
    let here = places_are (fraction c.args.q) c.places_of-places.result.0 c.unsigned_abs-den.result den c.places_of-places.ensures.1 in
    let power : c.places_of-places.result.1 ≡ 10 ^ places (fraction c.args.q) = c.places_of-places.ensures.0.1 ∙ ap (λ n. 10 ^ n) here in
    let units : c.unsigned_abs.result * (c.places_of-places.result.1 / c.unsigned_abs-den.result) ≡ in_last_place (fraction c.args.q) =
    units_are c.unsigned_abs.result c.places_of-places.result.1 c.unsigned_abs-den.result c.if-power-den-ne0.false ∙ (λ i. num i * power i / den i) in
    none_so_large (fraction c.args.q) (omega (arith, units, c.in_ok-units.ensures.1, c.if-units.true))

pub returns : goal.returns
returns c =
    let sign : to_z w128 (of_z w128 c.num.result) ≡ c.args.q.num = to_z-of_z {w = w128} {z = c.num.result} (record { sfits = c.num.type_inv }) ∙ c.num.ensures in
    let den : c.unsigned_abs-den.result ≡ c.args.q.den = c.unsigned_abs-den.ensures.value ∙ ap unsigned_abs (to_z-of_z {w = w128} {z = c.den.result} (record { sfits = c.den.type_inv }) ∙ c.den.ensures) in
    let num : c.unsigned_abs.result ≡ unsigned_abs c.args.q.num = c.unsigned_abs.ensures.value ∙ ap unsigned_abs (to_z-of_z {w = w128} {z = c.num-2.result} (record { sfits = c.num-2.type_inv }) ∙ c.num-2.ensures) in
    let here = places_are (fraction c.args.q) c.places_of-places.result.0 c.unsigned_abs-den.result den c.places_of-places.ensures.1 in
    let power : c.places_of-places.result.1 ≡ 10 ^ places (fraction c.args.q) = c.places_of-places.ensures.0.1 ∙ ap (λ n. 10 ^ n) here in
    let units : c.in_ok-units.units ≡ in_last_place (fraction c.args.q) =
    c.in_ok-units.ensures.1 ∙ units_are c.unsigned_abs.result c.places_of-places.result.1 c.unsigned_abs-den.result c.if-power-den-ne0.false ∙ (λ i. num i * power i / den i) in
    let small : c.in_ok-units.units < 2 ^ 127 = omega (arith, c.if-units.false) in
    let below : is_below_zero c.args.q.num ≡ false = sym (below_zero c.args.q.num) ∙ ap (λ z. lt_z z (pos 0)) (sym sign) ∙ c.if-num-lt0.false in
    record {
      there = decimal_there (fraction c.args.q) below ((λ i. sym power i % sym den i) ∙ c.if-power-den-ne0.false) (subst (λ n. n < 2 ^ 127) units small);
      units = units;
      small = small;
      places = here;
      power = c.places_of-places.ensures.0;
    }
