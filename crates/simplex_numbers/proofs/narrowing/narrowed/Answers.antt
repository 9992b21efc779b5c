-- Half of the number at which a pair comes to another one keeps it less, and so does each that is not greater.
use Rattle.std.proofs.Common.{◌≡◌, sym, ◌∙◌, ap, true≢false}
use Rattle.spec_numbers.specs.Bounds.{divided}
use Rattle.spec_text.proofs.AnswerLaws.{told}
use Rattle.spec_tableaux.specs.Fields.{is_positive}
use Rattle.spec_tableaux.specs.Numbers.{Number, numbers}
use Rattle.ratio128.specs.Meant.{overflow}
use Rattle.tableau.specs.Numbers.{number_of}
use Rattle.simplex_bounds.specs.Deltas.{pair_of}
use Rattle.spec_tableaux.specs.Halves.{is_less, IsSteeper, meeting, halfway, OverflowsOrder, half}
use Rattle.simplex_numbers.proofs.Orders.{irreflexive, level_stays, rises_not_zero, two_not_zero, steep_less, half_above, half_stays, steep_stays}
use Rattle.simplex_numbers.proofs.Epsilons.{half_or}
use Rattle.simplex_numbers.proofs.narrowing.narrowed.Goals as goal

pub returns-then-not-less-clause-smaller : goal.returns-then-not-less-clause-smaller
returns-then-not-less-clause-smaller c = (c.requires.positive, irreflexive (number_of c.args.e))

pub returns-then-not-less-clause-less : goal.returns-then-not-less-clause-less
returns-then-not-less-clause-less c = level_stays (pair_of c.args.x) (pair_of c.args.y) (number_of c.args.e) c.requires.positive (sym c.less.ensures ∙ c.if-not-less.true)

pub returns-then-not-less-clause-least : goal.returns-then-not-less-clause-least
returns-then-not-less-clause-least c = λ steep. absurd (true≢false (sym steep ∙ sym c.less.ensures ∙ c.if-not-less.true))

pub quotient-requires : goal.quotient-requires
quotient-requires c = ap numbers.is_zero c.in_ok-steepness.ensures.ok ∙ rises_not_zero (pair_of c.args.x) (pair_of c.args.y) (sym c.less.ensures ∙ c.if-not-less.false)

pub quotient-requires-2 : goal.quotient-requires-2
quotient-requires-2 c = ap numbers.is_zero c.two.ensures ∙ two_not_zero

pub returns-in_err-half-clause-wide : goal.returns-in_err-half-clause-wide
returns-in_err-half-clause-wide c =
    let x = pair_of c.args.x in
    let y = pair_of c.args.y in
    let at : number_of c.in_ok-meeting.meeting ≡ meeting x y = c.in_ok-meeting.ensures.ok ∙ (λ i. numbers.times (c.in_ok-gap.ensures.ok i) (numbers.inverse (c.in_ok-steepness.ensures.ok i))) in
    let o = overflow c.in_err-half.field-0.0 in
    told (λ w. OverflowsOrder x y (overflow w)) c.from_residual-in_err-half.result c.in_err-half.field-0.0 c.from_residual-in_err-half.ensures.1
    (sym c.less.ensures ∙ c.if-not-less.false, half ((λ i. divided (sym at i).fraction (sym c.two.ensures i).fraction) ∙ c.in_err-half.ensures.wide))

pub lesser-requires-clause-first : goal.lesser-requires-clause-first
lesser-requires-clause-first c =
    let x = pair_of c.args.x in
    let y = pair_of c.args.y in
    let steep : IsSteeper x y = sym c.less.ensures ∙ c.if-not-less.false in
    let is : number_of c.in_ok-half.half ≡ halfway x y = c.in_ok-half.ensures.ok ∙ (λ i. numbers.times ((c.in_ok-meeting.ensures.ok
    ∙ (λ j. numbers.times (c.in_ok-gap.ensures.ok j) (numbers.inverse (c.in_ok-steepness.ensures.ok j)))) i) (numbers.inverse (c.two.ensures i))) in
    ap (is_positive numbers) is ∙ half_above x y steep (steep_less x y steep c.requires.order)

pub returns-clause-less : goal.returns-clause-less
returns-clause-less c = λ less.
    let x = pair_of c.args.x in
    let y = pair_of c.args.y in
    let steep : IsSteeper x y = sym c.less.ensures ∙ c.if-not-less.false in
    let is : number_of c.in_ok-half.half ≡ halfway x y = c.in_ok-half.ensures.ok ∙ (λ i. numbers.times ((c.in_ok-meeting.ensures.ok
    ∙ (λ j. numbers.times (c.in_ok-gap.ensures.ok j) (numbers.inverse (c.in_ok-steepness.ensures.ok j)))) i) (numbers.inverse (c.two.ensures i))) in
    steep_stays x y steep (halfway x y) (number_of c.lesser.result) (ap (λ (n : Number). is_less n (number_of c.lesser.result)) (sym is) ∙ c.lesser.ensures.first.1) (half_stays x y steep less)

pub returns-clause-is : goal.returns-clause-is
returns-clause-is c =
    let x = pair_of c.args.x in
    let y = pair_of c.args.y in
    let is : number_of c.in_ok-half.half ≡ halfway x y = c.in_ok-half.ensures.ok ∙ (λ i. numbers.times ((c.in_ok-meeting.ensures.ok
    ∙ (λ j. numbers.times (c.in_ok-gap.ensures.ok j) (numbers.inverse (c.in_ok-steepness.ensures.ok j)))) i) (numbers.inverse (c.two.ensures i))) in
    half_or c.args.e c.in_ok-half.half c.lesser.result x y (sym c.less.ensures ∙ c.if-not-less.false) is c.lesser.ensures.either

pub returns-clause-least : goal.returns-clause-least
returns-clause-least c = λ steep.
    let x = pair_of c.args.x in
    let y = pair_of c.args.y in
    let is : number_of c.in_ok-half.half ≡ halfway x y = c.in_ok-half.ensures.ok ∙ (λ i. numbers.times ((c.in_ok-meeting.ensures.ok
    ∙ (λ j. numbers.times (c.in_ok-gap.ensures.ok j) (numbers.inverse (c.in_ok-steepness.ensures.ok j)))) i) (numbers.inverse (c.two.ensures i))) in
    ap (λ (n : Number). is_less n (number_of c.lesser.result)) (sym is) ∙ c.lesser.ensures.first.1
