-- The one place of the number is among the first.
use Rattle.term_walks.proofs.Taking.{place_before, among_order}
use Rattle.term_walks.proofs.order.place_among.Goals as goal

pub place_of-requires-clause-there : goal.place_of-requires-clause-there
place_of-requires-clause-there c = among_order c.args.order.now c.args.count c.args.number c.requires.there

pub returns-clause-inside : goal.returns-clause-inside
returns-clause-inside c = place_before c.args.order.now c.args.count c.args.number c.place_of.result c.requires.ascends c.requires.there c.place_of.ensures.inside c.place_of.ensures.same
