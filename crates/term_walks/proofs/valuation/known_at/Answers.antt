-- What is known is at the place of the number.
use Rattle.std.proofs.Common.{◌<◌, [], length, ap, sym, ◌∙◌, subst}
use Rattle.spec_sorts.specs.BoundedValues.{bounded_value}
use Rattle.term_walks.specs.Orders.{number_term}
use Rattle.term_walks.specs.KnownValues.{known_meant, IsKnownNamed}
use Rattle.term_walks.proofs.valuation.known_at.Goals as goal

pub returns-clause-exact : goal.returns-clause-exact
returns-clause-exact c t i are =
    let place = c.place_among-place.result in
    let lt : place < length c.args.known.now = c.place_among-place.ensures.inside in
    ap (known_meant t.sorts) c.index-known-place.is ∙ are place c.index-known-place.result lt ∙ ap (λ m. bounded_value i [] (number_term t m)) c.place_among-place.ensures.same

pub returns-clause-named : goal.returns-clause-named
returns-clause-named c sorts are =
    let place = c.place_among-place.result in
    let lt : place < length c.args.known.now = c.place_among-place.ensures.inside in
    subst (IsKnownNamed sorts) (sym c.index-known-place.is) (are place c.index-known-place.result lt)
