-- What heads each term is over the table's symbols.
use Rattle.std.proofs.Common.{Contains, subst}
use Rattle.spec_sorts.specs.Terms.{Head, Terms, app}
use Rattle.spec_sorts.specs.WellSorted.{IsHeadOver}
use Rattle.term_core.specs.Tables.{TableView}
use Rattle.term_core.proofs.TermsClosed.{heads_over}
use Rattle.term_core.proofs.terms.TermTable.heads_are_declared.Goals as goal

pub returns : goal.returns
returns c = subst (λ (t : TableView). (h : Head) (ts : Terms) → Contains t.terms (app h ts) → IsHeadOver t.symbols h) c.self.view_is (heads_over c.self.inside.symbols c.self.inside.nodes.keys c.self.invariant.whole)
