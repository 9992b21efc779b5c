-- The arguments of a table's terms are among them.
use Rattle.std.proofs.Common.{subst}
use Rattle.spec_sorts.specs.Subsets.{IsClosed}
use Rattle.term_core.proofs.TermsClosed.{closed_terms}
use Rattle.term_core.proofs.terms.TermTable.terms_are_closed.Goals as goal

pub returns : goal.returns
returns c = subst (λ t. IsClosed t.terms) c.self.view_is (closed_terms c.self.inside.symbols c.self.inside.nodes.keys c.self.invariant.whole)
