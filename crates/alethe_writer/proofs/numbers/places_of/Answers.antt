-- By its digits.
use Rattle.std.proofs.Common.{◌≡◌, ◌+◌, ◌-◌, ◌*◌, ◌^◌, ◌%◌, sym, ap, ◌∙◌, ◌≤◌, arith, subst}
use Rattle.spec_proof_texts.specs.Decimals.{places_from}
use Rattle.alethe_writer.proofs.Decimals.{places_here, places_on, power_small, power_more}
use Rattle.alethe_writer.proofs.numbers.places_of.Goals as goal

pub returns-then-power-den-eq0 : goal.returns-then-power-den-eq0
returns-then-power-den-eq0 c =
    let inv = c.places.invariant in
    ((omega (arith, c.places-test.true), inv.power), sym (places_here c.places.count c.args.den c.places-test.true (ap (λ x. x % c.args.den) (sym inv.power) ∙ c.if-power-den-eq0.true)) ∙ inv.same)

pub overflow_mul-power : goal.overflow_mul-power
overflow_mul-power c =
    let n = c.places.count in
    let small : 10 ^ (n + 1) ≤ 10 ^ 38 = power_small (n + 1) (omega (arith, c.places-test.true)) in
    let more : c.places.power * 10 ≡ 10 ^ (n + 1) = ap (λ x. x * 10) c.places.invariant.power ∙ power_more n in
    omega (arith, small, more)

pub places-preserved : goal.places-preserved
places-preserved c =
    let inv = c.places.invariant in
    record {
      power = ap (λ x. x * 10) inv.power ∙ power_more c.places.count;
      same = sym (places_on c.places.count c.args.den c.places-test.true (λ e. c.if-power-den-eq0.false (ap (λ x. x % c.args.den) inv.power ∙ e))) ∙ inv.same;
    }

pub returns : goal.returns
returns c =
    let inv = c.places.invariant in
    let last : c.places.count ≡ 38 = omega (arith, c.places-test.false, c.places.auto.count-end) in
    ((omega arith, inv.power ∙ ap (λ n. 10 ^ n) last), subst (λ n. places_from (38 - n) n c.args.den ≡ places_from 38 0 c.args.den) last inv.same)
