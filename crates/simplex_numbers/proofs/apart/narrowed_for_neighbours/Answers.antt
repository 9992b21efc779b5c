-- Each step passes two neighbours more, and in the end all are clear of each other.
use Rattle.std.proofs.Common.{◌<◌, length, arith, refl, inl, map}
use Rattle.spec_text.proofs.AnswerLaws.{told}
use Rattle.ratio128.specs.Meant.{overflow}
use Rattle.tableau.specs.Numbers.{number_of}
use Rattle.simplex_bounds.specs.Deltas.{pair_of}
use Rattle.spec_tableaux.specs.Halves.{OverflowsApart}
use Rattle.simplex_numbers.proofs.Orders.{irreflexive, smaller_smaller}
use Rattle.simplex_numbers.proofs.Neighbours.{clear_more, half_more, overflows_more, none_among}
use Rattle.simplex_numbers.proofs.apart.narrowed_for_neighbours.Goals as goal

pub slacks-init : goal.slacks-init
slacks-init c = record {
  smaller = (c.requires.positive, irreflexive (number_of c.args.e));
  one_of = inl refl;
  clear = λ k d lt. absurd (omega (arith, lt));
}

pub slacks-preserved : goal.slacks-preserved
slacks-preserved c =
    let xs = c.args.values.now in
    let at = c.slacks.at in
    let x = c.index-values-at.result in
    let y = c.index-values-at-in-slacks.result in
    let s = c.slacks.small in
    let d = c.in_ok-small.small in
    let some : 0 < c.slacks.at = omega (arith, c.slacks.auto.at) in
    let lt : c.slacks.at < length xs = omega (arith, c.slacks-test.true) in
    record {
      smaller = smaller_smaller (number_of c.args.e) (number_of s) (number_of d) c.slacks.invariant.smaller c.in_ok-small.ensures.smaller;
      one_of = half_more xs at x y some lt c.index-values-at.is c.index-values-at-in-slacks.is c.requires.sorted c.args.e s d c.slacks.invariant.one_of c.in_ok-small.ensures.is;
      clear = clear_more xs at x y some lt c.index-values-at.is c.index-values-at-in-slacks.is (number_of s) (number_of d) c.in_ok-small.ensures.smaller c.slacks.invariant.clear c.in_ok-small.ensures.least;
    }

pub returns-in_err-small-clause-wide : goal.returns-in_err-small-clause-wide
returns-in_err-small-clause-wide c =
    let xs = c.args.values.now in
    let some : 0 < c.slacks.at = omega (arith, c.slacks.auto.at) in
    let lt : c.slacks.at < length xs = omega (arith, c.slacks-test.true) in
    told (λ w. OverflowsApart (map pair_of xs) (overflow w)) c.from_residual.result c.in_err-small.field-0.0 c.from_residual.ensures.1
    (overflows_more xs c.slacks.at c.index-values-at.result c.index-values-at-in-slacks.result some lt c.index-values-at.is c.index-values-at-in-slacks.is c.requires.sorted
    (overflow c.in_err-small.field-0.0) c.in_err-small.ensures.wide)

pub returns-clause-least : goal.returns-clause-least
returns-clause-least c =
    none_among (number_of c.slacks.small) c.slacks.invariant.smaller.0 c.args.values.now c.requires.sorted
    (λ k d lt. c.slacks.invariant.clear k d (omega (arith, lt, c.slacks-test.false)))
