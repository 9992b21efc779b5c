-- Its tree is in the text.
use Rattle.smt_sexpr.specs.Items.{text_of, start_of, tree_of}
use Rattle.smt_sexpr.proofs.sexpr.Sexpr.offsets_have_places.Goals as goal

pub returns : goal.returns
returns c =
    let s = c.args.self.now in
    c.trees_are_in_their_text.ensures.first (text_of s) (start_of s) (tree_of s) _ s.read.1
