-- What the table keeps of a number has the literal of the number's term.
use Rattle.std.proofs.Common.{arith}
use Rattle.term_core.proofs.FactsKept.{kept_literal, kept_within}
use Rattle.term_core.proofs.terms.TermTable.literal.Goals as goal

pub index-facts-requires : goal.index-facts-requires
index-facts-requires c = omega (arith, kept_within c.self.inside.symbols c.self.inside.nodes.keys c.self.inside.facts.items c.args.self.now c.self.invariant c.self.view_is c.args.id c.requires, c.self.inside.facts.ok.0)

pub returns-clause-means : goal.returns-clause-means
returns-clause-means c = (kept_literal c.self.inside.symbols c.self.inside.nodes.keys c.self.inside.facts.items c.args.self.now c.self.invariant c.self.view_is c.args.id c.index-facts.result.now c.requires c.index-facts.ensures).same

pub returns-clause-there : goal.returns-clause-there
returns-clause-there c = omega (arith, c.requires, (kept_literal c.self.inside.symbols c.self.inside.nodes.keys c.self.inside.facts.items c.args.self.now c.self.invariant c.self.view_is c.args.id c.index-facts.result.now c.requires c.index-facts.ensures).low)
