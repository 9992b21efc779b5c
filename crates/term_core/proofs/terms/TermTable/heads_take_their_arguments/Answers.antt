-- The head of each term takes its arguments.
use Rattle.std.proofs.Common.{◌≡◌, true, Contains, map, subst}
use Rattle.spec_sorts.specs.Terms.{Head, Terms, app, list_of, sort_of}
use Rattle.term_core.specs.Tables.{takes}
use Rattle.term_core.proofs.TermsClosed.{heads_take}
use Rattle.term_core.proofs.terms.TermTable.heads_take_their_arguments.Goals as goal

pub returns : goal.returns
returns c = subst (λ t. (h : Head) (ts : Terms) → Contains t.terms (app h ts) → takes h (map sort_of (list_of ts)) ≡ true) c.self.view_is (heads_take c.self.inside.symbols c.self.inside.nodes.keys c.self.invariant.whole)
