-- The first item has the offset.
use Rattle.std.proofs.Common.{ap, ◌∙◌}
use Rattle.spec_text.specs.Trees.{offset_of}
use Rattle.smt_sexpr.proofs.Flat.{look_none, look_atom, look_list}
use Rattle.smt_sexpr.proofs.shapes.offset.Goals as goal

pub returns-in-None : goal.returns-in-None
returns-in-None c = ap offset_of (look_none c.args.trees.text.now c.args.trees.items.now c.in-None.ensures.cases)

pub returns-in-Atom : goal.returns-in-Atom
returns-in-Atom c = c.from.ensures ∙ ap offset_of (look_atom c.args.trees.text.now _ _ _ _ _ _ c.in-Some.ensures.cases.0 c.in-Atom.is)

pub returns-in-List : goal.returns-in-List
returns-in-List c = c.from-in-List.ensures ∙ ap offset_of (look_list c.args.trees.text.now _ _ _ _ _ _ c.in-Some.ensures.cases.0 c.in-List.is)
