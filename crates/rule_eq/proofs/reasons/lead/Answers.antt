-- That the reasons lead there, or stop.
use Rattle.std.proofs.Common.{arith}
use Rattle.term_core.specs.Tables.{term_at}
use Rattle.rule_eq.specs.Reasoning.{reasons_meant}
use Rattle.rule_eq.proofs.Leading.{no_reason, no_next, led_by, led_on, led_end}
use Rattle.rule_eq.proofs.reasons.lead.Goals as goal

pub loop-place-init : goal.loop-place-init
loop-place-init c = record { there = c.requires.from; led = λ h. h; left = λ h. h }

pub returns-in_default : goal.returns-in_default
returns-in_default c =
    let table = c.args.table.now in
    let rs = reasons_meant table c.args.reasons in
    let long = c.count-place-end.ensures table in
    λ h. no_reason rs (term_at table c.args.to) c.loop-place.place (term_at table c.loop-place.current) (omega (arith, long, c.loop-place-test.true)) c.in_default.ensures (c.loop-place.invariant.left h)

pub other_side-requires-clause-from : goal.other_side-requires-clause-from
other_side-requires-clause-from c = c.loop-place.invariant.there

pub returns-in_default-other_side : goal.returns-in_default-other_side
returns-in_default-other_side c =
    let table = c.args.table.now in
    let rs = reasons_meant table c.args.reasons in
    let long = c.count-place-end.ensures table in
    λ h. no_next rs (term_at table c.args.to) c.loop-place.place (term_at table c.loop-place.current) (omega (arith, long, c.loop-place-test.true))
    (term_at table c.in-Some.reason) c.in-Some.ensures.1 c.in_default-other_side.ensures (c.loop-place.invariant.left h)

pub loop-place-preserved : goal.loop-place-preserved
loop-place-preserved c =
    let table = c.args.table.now in
    let rs = reasons_meant table c.args.reasons in
    let long = c.count-place-end.ensures table in
    record {
      there = c.in-Some-other_side.ensures.0;
      led = λ h. c.loop-place.invariant.led (led_by rs (term_at table c.args.to) c.loop-place.place (term_at table c.loop-place.current) (omega (arith, long, c.loop-place-test.true))
          (term_at table c.in-Some.reason) c.in-Some.ensures.1 (term_at table c.in-Some-other_side.next) c.in-Some-other_side.ensures.1 h);
      left = λ h. led_on rs (term_at table c.args.to) c.loop-place.place (term_at table c.loop-place.current) (omega (arith, long, c.loop-place-test.true))
          (term_at table c.in-Some.reason) c.in-Some.ensures.1 (term_at table c.in-Some-other_side.next) c.in-Some-other_side.ensures.1 (c.loop-place.invariant.left h);
    }

pub returns : goal.returns
returns c =
    let table = c.args.table.now in
    let rs = reasons_meant table c.args.reasons in
    let long = c.count-place-end.ensures table in
    led_end table rs c.loop-place.place c.loop-place.current c.args.to c.args.from (omega (arith, long, c.loop-place-test.false)) c.ids_are_unique.ensures c.loop-place.invariant.there c.requires.to
    c.loop-place.invariant.led c.loop-place.invariant.left c.same_number.result c.same_number.ensures
