-- The number serves a variable more at each step, and in the end all.
use Rattle.std.proofs.Common.{arith, ◌∙◌, ap, inl, map, subst}
use Rattle.spec_text.proofs.AnswerLaws.{told}
use Rattle.spec_tableaux.specs.Fields.{is_positive}
use Rattle.spec_tableaux.specs.Spaces.{Pair}
use Rattle.spec_tableaux.specs.Ranges.{Range}
use Rattle.spec_tableaux.specs.Numbers.{Number, numbers}
use Rattle.ratio128.specs.Meant.{overflow}
use Rattle.tableau.specs.Numbers.{number_of}
use Rattle.simplex_bounds.specs.Deltas.{pair_of, range_of}
use Rattle.simplex_bounds.specs.Held.{ranges_in}
use Rattle.spec_tableaux.specs.Points.{point_in}
use Rattle.spec_tableaux.specs.Halves.{is_less, OverflowsRange, OverflowsNumber}
use Rattle.spec_tableaux.specs.Halves as halves
use Rattle.simplex_explain.proofs.Distances.{one_above}
use Rattle.simplex_numbers.proofs.Orders.{irreflexive, not_above}
use Rattle.simplex_numbers.proofs.Keeping.{off_after, kept_after}
use Rattle.simplex_numbers.proofs.Everywhere.{everywhere, one_more, none_more, epsilon_of_all}
use Rattle.simplex_numbers.proofs.Epsilons.{one_of_more, epsilon_after, overflows_after}
use Rattle.simplex_numbers.proofs.Neighbours.{apart_after}
use Rattle.simplex_numbers.proofs.small.small_number.Goals as goal

pub loop-y-init : goal.loop-y-init
loop-y-init c = record {
  positive = ap (is_positive numbers) c.one-e.ensures ∙ one_above;
  off = λ y lt. absurd (omega (arith, lt));
  one_of = inl c.one-e.ensures;
  most_one = ap (is_less numbers.one) c.one-e.ensures ∙ irreflexive numbers.one;
  most_each = λ y lt. absurd (omega (arith, lt));
}

pub loop-y-preserved : goal.loop-y-preserved
loop-y-preserved c =
    let held = c.args.bounds.now.held in
    let v = point_in c.args.assignment.now.values in
    let e = number_of c.loop-y.e in
    let d = number_of c.in_ok-e.e in
    let r = range_of c.range.result in
    let x = pair_of c.value.result in
    record {
      positive = c.in_ok-e.ensures.smaller.0;
      off = one_more held v e d c.loop-y.y r x c.loop-y.invariant.off c.in_ok-e.ensures.smaller c.in_ok-e.ensures.off c.range.ensures c.value.ensures;
      one_of = one_of_more (ranges_in held) v c.loop-y.y c.loop-y.e c.in_ok-e.e r x c.loop-y.invariant.one_of c.range.ensures c.value.ensures c.in_ok-e.ensures.is;
      most_one = not_above numbers.one e d c.loop-y.invariant.most_one c.in_ok-e.ensures.smaller.1;
      most_each = none_more held v e d c.loop-y.y r x c.loop-y.invariant.most_each c.in_ok-e.ensures.smaller c.in_ok-e.ensures.least c.range.ensures c.value.ensures;
    }

pub returns-in_err-e-clause-wide : goal.returns-in_err-e-clause-wide
returns-in_err-e-clause-wide c =
    let ranges = ranges_in c.args.bounds.now.held in
    let v = point_in c.args.assignment.now.values in
    let w = overflow c.in_err-e.field-0.0 in
    told (λ w. OverflowsNumber ranges v (map pair_of c.args.apart.now) (overflow w)) c.from_residual.result c.in_err-e.field-0.0 c.from_residual.ensures.1
    (halves.bounds c.loop-y.y (subst (λ (r : Range (Pair Number)). OverflowsRange r (v c.loop-y.y) w) c.range.ensures
    (subst (λ (x : Pair Number). OverflowsRange (range_of c.range.result) x w) c.value.ensures c.in_err-e.ensures.wide)))

pub returns-clause-keeps : goal.returns-clause-keeps
returns-clause-keeps c =
    let held = c.args.bounds.now.held in
    let v = point_in c.args.assignment.now.values in
    let e = number_of c.loop-y.e in
    let off = everywhere held v e c.args.bounds.now.variables c.held_are_of_variables.ensures
    (λ z lt. c.loop-y.invariant.off z (omega (arith, lt, c.loop-y-test.false, c.variables-y-end.ensures))) in
    kept_after (ranges_in held) v c.narrowed_apart.result c.requires.within (off_after (ranges_in held) v c.narrowed_apart.result e off c.narrowed_apart.ensures.smaller)

pub returns-clause-off : goal.returns-clause-off
returns-clause-off c =
    let held = c.args.bounds.now.held in
    let v = point_in c.args.assignment.now.values in
    let e = number_of c.loop-y.e in
    let off = everywhere held v e c.args.bounds.now.variables c.held_are_of_variables.ensures
    (λ z lt. c.loop-y.invariant.off z (omega (arith, lt, c.loop-y-test.false, c.variables-y-end.ensures))) in
    off_after (ranges_in held) v c.narrowed_apart.result e off c.narrowed_apart.ensures.smaller

pub returns-clause-apart : goal.returns-clause-apart
returns-clause-apart c =
    apart_after c.narrowed_apart.result (number_of c.loop-y.e) (map pair_of c.args.apart.now) c.narrowed_apart.ensures.smaller c.narrowed_apart.ensures.least

pub returns-clause-is : goal.returns-clause-is
returns-clause-is c =
    let held = c.args.bounds.now.held in
    let v = point_in c.args.assignment.now.values in
    epsilon_after c.narrowed_apart.result c.loop-y.e (ranges_in held) v (map pair_of c.args.apart.now)
    (epsilon_of_all held v (number_of c.loop-y.e) c.args.bounds.now.variables c.held_are_of_variables.ensures c.loop-y.invariant.one_of c.loop-y.invariant.most_one
    (λ z lt. c.loop-y.invariant.most_each z (omega (arith, lt, c.loop-y-test.false, c.variables-y-end.ensures))))
    c.narrowed_apart.ensures.smaller c.narrowed_apart.ensures.is c.narrowed_apart.ensures.least

pub returns-clause-wide : goal.returns-clause-wide
returns-clause-wide c =
    overflows_after c.narrowed_apart.result (ranges_in c.args.bounds.now.held) (point_in c.args.assignment.now.values) (map pair_of c.args.apart.now) c.narrowed_apart.ensures.wide
