use Rattle.std.proofs.Common.{◌≡◌, List, ◌∷◌, ◌++◌, subst}
use Rattle.spec_sorts.specs.Terms.{Term}
use Rattle.spec_sorts.specs.Subsets.{arguments_of, AreAmong}
use Rattle.term_core.proofs.TermsClosed.{first_arguments}
use Rattle.term_core.proofs.terms.TermTable.arguments_come_first.Goals as goal

pub returns : goal.returns
returns c = subst (λ t. (before after : List Term) (u : Term) → t.terms ≡ before ++ u ∷ after → AreAmong (arguments_of u) before) c.self.view_is (first_arguments c.self.inside.symbols c.self.inside.nodes.keys c.self.invariant.whole)
