-- Trees with the same lexemes are the same.
use Rattle.std.proofs.Common.{◌∙◌, sym}
use Rattle.spec_text.proofs.Reading.{same_trees}
use Rattle.spec_text.proofs.laws.trees_are_unique.Goals as goal

pub returns : goal.returns
returns c text ts us h k = same_trees ts us (sym h ∙ k)
