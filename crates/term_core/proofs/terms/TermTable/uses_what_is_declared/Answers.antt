-- What a table's symbols and terms use is declared.
use Rattle.std.proofs.Common.{subst}
use Rattle.term_core.specs.Uses.{UsesDeclared}
use Rattle.term_core.proofs.Undeclared.{uses_declared}
use Rattle.term_core.proofs.terms.TermTable.uses_what_is_declared.Goals as goal

pub returns : goal.returns
returns c = subst UsesDeclared c.self.view_is (uses_declared c.self.inside.symbols c.self.inside.nodes.keys c.self.invariant.whole c.symbols_use_sorts.ensures)
