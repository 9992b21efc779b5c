-- The places of one term's arguments after the other come, and then its own.
use Rattle.std.proofs.Common.{get_or, subst}
use Rattle.term_walks.specs.Orders.{numbers_of, In}
use Rattle.term_walks.proofs.Among.{at_in, in_all}
use Rattle.linear_form.proofs.plan.uses_of.Goals as goal

pub needed-requires : goal.needed-requires
needed-requires c = record { there = c.requires.there (get_or c.args.order.now c.terms.at 0) (at_in c.args.order.now c.terms.at c.terms-test.true) }

pub add_places-requires-clause-there : goal.add_places-requires-clause-there
add_places-requires-clause-there c =
    let order = c.args.order.now in
    let k = get_or order c.terms.at 0 in
    in_all (λ q. In q order) (numbers_of c.needed.result.now) (λ q h. c.requires.closed k q (at_in order c.terms.at c.terms-test.true) (subst (In q) c.needed.ensures.same h))
