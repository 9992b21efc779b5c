-- That the equality is put.
use Rattle.term_clauses.proofs.Arguments.{Widens-self}
use Rattle.congruence_explain.proofs.Terms.{equality_put}
use Rattle.congruence_explain.proofs.putting.formula_of.Goals as goal

pub returns-in_err-node-in-Equality-clause-wider : goal.returns-in_err-node-in-Equality-clause-wider
returns-in_err-node-in-Equality-clause-wider c = Widens-self c.args.table.now

pub returns-in-Atom-clause-wider : goal.returns-in-Atom-clause-wider
returns-in-Atom-clause-wider c = Widens-self c.args.table.now

pub returns-in_ok-node-in-Equality-clause-means : goal.returns-in_ok-node-in-Equality-clause-means
returns-in_ok-node-in-Equality-clause-means c =
    rw c.in-Equality.is (equality_put c.args.table.now c.put.new.self (record { terms = c.put.ensures.kept.0; declared = c.put.ensures.kept.1 }) c.in-Equality.a c.in-Equality.b c.in_ok-node-in-Equality.node
    c.in_ok-node-in-Equality.ensures.0 c.in_ok-node-in-Equality.ensures.1 (rw c.in-Equality.is at c.requires) c.put.result c.put.ensures.there)
