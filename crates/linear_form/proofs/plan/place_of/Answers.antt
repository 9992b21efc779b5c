-- A number that is there is found.
use Rattle.term_walks.proofs.Places.{missing}
use Rattle.linear_form.proofs.plan.place_of.Goals as goal

pub unreachable-requires : goal.unreachable-requires
unreachable-requires c = missing c.args.order.now c.args.number c.binary_search.result c.in-Err.field-0 c.requires.ascends c.requires.there c.in-Err.is c.binary_search.ensures.position
