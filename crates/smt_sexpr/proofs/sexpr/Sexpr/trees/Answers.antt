-- Its items are those of its tree, and mean no other.
use Rattle.std.proofs.Common.{ap, ◌∙◌}
use Rattle.smt_sexpr.specs.Means.{trees_in}
use Rattle.smt_sexpr.proofs.Meaning.{means_tree}
use Rattle.smt_sexpr.proofs.sexpr.Sexpr.trees.Goals as goal

pub returns-clause-alone : goal.returns-clause-alone
returns-clause-alone c = let r = c.args.self.now.read in ap (trees_in c.args.self.now.text.now) (c.as_slice.ensures.value ∙ r.0) ∙ means_tree _ _ _ _ r.1
