-- The lexemes are there.
use Rattle.spec_text.proofs.Offsets.{tree_in_text, trees_in_text}
use Rattle.spec_text.proofs.laws.trees_are_in_their_text.Goals as goal

pub returns : goal.returns
returns c = record { first = tree_in_text; all = trees_in_text }
