use Rattle.std.proofs.Common.{◌≡◌, ◌^◌, ◌++◌, pos, length, sym, ap, ◌∙◌}
use Rattle.spec_numbers.specs.Fractions.{lowest}
use Rattle.spec_sorts.specs.Numerals.{number_after}
use Rattle.spec_sorts.proofs.General.{number_along}
use Rattle.term_reader.proofs.Digits.{wide_by_whole, wide_by_places_number, not_wide}
use Rattle.term_reader.proofs.literals.number_of.Goals as goal

pub returns-in_default : goal.returns-in_default
returns-in_default c = wide_by_whole c.args.whole.now c.args.places.now c.in_default.ensures

pub returns-in_default-number_after : goal.returns-in_default-number_after
returns-in_default-number_after c = wide_by_places_number c.args.whole.now c.args.places.now c.in-Some.before c.in-Some.ensures.1 c.in_default-number_after.ensures

pub returns : goal.returns
returns c =
    let b = c.in-Some in
    let n = c.in-Some-number_after in
    let ds = c.args.places.now in
    let all : n.number ≡ number_after 0 (c.args.whole.now ++ ds) = n.ensures.1 ∙ ap (λ m. number_after m ds) b.ensures.1 ∙ sym (number_along 0 c.args.whole.now ds) in (
      not_wide c.args.whole.now ds b.before n.number b.ensures.1 n.ensures.1 (rw n.ensures.1 n.ensures.0) c.if-places-gt-MOST_PLACES.false,
      c.over_power.ensures ∙ ap (λ m. lowest (pos m) (10 ^ length ds)) all,
    )
