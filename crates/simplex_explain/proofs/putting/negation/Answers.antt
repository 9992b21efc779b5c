-- The negation is put, or the atom is there.
use Rattle.std.proofs.Common.{◌≡◌, true}
use Rattle.std.proofs.lemmas.Bool.{not-false}
use Rattle.term_clauses.proofs.Arguments.{Widens-self}
use Rattle.simplex_explain.proofs.Terms.{negation_put}
use Rattle.simplex_explain.proofs.putting.negation.Goals as goal

pub returns-then-not-literal-clause-wider : goal.returns-then-not-literal-clause-wider
returns-then-not-literal-clause-wider c = Widens-self c.args.table.now

pub returns-in_err-node-clause-wider : goal.returns-in_err-node-clause-wider
returns-in_err-node-clause-wider c = Widens-self c.args.table.now

pub returns-clause-means : goal.returns-clause-means
returns-clause-means c =
    let positive : c.args.literal.positive ≡ true = not-false c.args.literal.positive c.if-not-literal.false in
    negation_put c.args.table.now c.put.new.self (record { terms = c.put.ensures.kept.0; declared = c.put.ensures.kept.1 }) c.args.literal c.in_ok-node.node
    c.in_ok-node.ensures.0 c.in_ok-node.ensures.1 c.requires positive c.put.result c.put.ensures.there
