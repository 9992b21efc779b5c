-- What the table keeps of a number is of the number's term.
use Rattle.std.proofs.Common.{arith}
use Rattle.term_core.proofs.FactsKept.{kept_at, kept_within}
use Rattle.term_core.proofs.terms.TermTable.sort.Goals as goal

pub index-requires : goal.index-requires
index-requires c = omega (arith, kept_within c.self.inside.symbols c.self.inside.nodes.keys c.self.inside.facts.items c.args.self.now c.self.invariant c.self.view_is c.args.id c.requires, c.self.inside.facts.ok.0)

pub returns-clause-means : goal.returns-clause-means
returns-clause-means c = (kept_at c.self.inside.symbols c.self.inside.nodes.keys c.self.inside.facts.items c.args.self.now c.self.invariant c.self.view_is c.args.id c.index.result.now c.requires c.index.ensures).sort

pub returns-clause-there : goal.returns-clause-there
returns-clause-there c = (kept_at c.self.inside.symbols c.self.inside.nodes.keys c.self.inside.facts.items c.args.self.now c.self.invariant c.self.view_is c.args.id c.index.result.now c.requires c.index.ensures).there
