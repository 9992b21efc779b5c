-- That the negation is put.
use Rattle.term_clauses.proofs.Arguments.{Widens-self}
use Rattle.congruence_explain.proofs.Terms.{negation_put}
use Rattle.congruence_explain.proofs.putting.signed_of.Goals as goal

pub returns-in_err-node-clause-wider : goal.returns-in_err-node-clause-wider
returns-in_err-node-clause-wider c = Widens-self c.args.table.now

pub returns-then-positive-clause-wider : goal.returns-then-positive-clause-wider
returns-then-positive-clause-wider c = Widens-self c.args.table.now

pub returns-clause-means : goal.returns-clause-means
returns-clause-means c =
    rw c.if-positive.false (negation_put c.args.table.now c.put.new.self (record { terms = c.put.ensures.kept.0; declared = c.put.ensures.kept.1 }) c.args.id c.in_ok-node.node
    c.in_ok-node.ensures.0 c.in_ok-node.ensures.1 c.requires c.put.result c.put.ensures.there)
