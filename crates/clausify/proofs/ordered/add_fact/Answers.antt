-- The order fact is put, and its number comes last; other terms have none.
use Rattle.std.proofs.Common.{[], ◌∷◌, sym}
use Rattle.spec_derivations.specs.Orders.{order_fact, order_facts}
use Rattle.term_core.specs.Tables.{term_at}
use Rattle.term_clauses.proofs.Arguments.{Widens-self}
use Rattle.term_clauses.proofs.Speaking.{more_none, more_pushed, more_same}
use Rattle.clausify.proofs.Equalities.{facts_are, fact_in}
use Rattle.clausify.proofs.ordered.add_fact.Goals as goal

pub returns-in_default-clause-wider : goal.returns-in_default-clause-wider
returns-in_default-clause-wider c = Widens-self c.args.table.now

pub returns-in_default-clause-more : goal.returns-in_default-clause-more
returns-in_default-clause-more c =
    let t = c.args.table.now in
    let ids = c.args.ids.now.items in
    more_same t t ids ids [] (order_facts (term_at t c.args.id)) (sym c.in_default.ensures.0) (more_none t ids c.requires.ids)

pub returns-clause-more : goal.returns-clause-more
returns-clause-more c =
    let t = c.args.table.now in
    let u = c.order_fact.new.table in
    let wider = c.order_fact.ensures.wider in
    let x = c.in-Some.sides in
    let is = c.in-Some.ensures in
    let fact = c.in_ok-fact.fact in
    let means = c.in_ok-fact.ensures.means in
    let all = c.push.new.self.items in
    let ids = c.args.ids.now.items in
    let told_fact = order_fact (term_at t x.left) (term_at t x.right) in
    more_same t u ids all (told_fact ∷ []) (order_facts (term_at t c.args.id)) (sym (facts_are t c.args.id x c.requires.there is))
    (more_pushed t u wider ids all fact told_fact c.requires.ids c.in_ok-push.ensures.items (fact_in t u wider c.args.id x fact c.requires.there is means) means.1)
