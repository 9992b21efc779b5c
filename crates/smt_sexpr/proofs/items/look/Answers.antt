use Rattle.std.proofs.Common.{ap, ◌∙◌}
use Rattle.spec_text.specs.Trees.{atom}
use Rattle.smt_sexpr.proofs.Flat.{look_none, look_atom, look_list}
use Rattle.smt_sexpr.proofs.items.look.Goals as goal

pub returns-in-None-clause-seen : goal.returns-in-None-clause-seen
returns-in-None-clause-seen c = look_none c.args.trees.text.now c.args.trees.items.now c.in-None.ensures.cases

pub returns-in-Atom-clause-seen : goal.returns-in-Atom-clause-seen
returns-in-Atom-clause-seen c = ap (atom c.in-Atom.at c.in-Atom.kind) c.word_bytes.ensures ∙ look_atom c.args.trees.text.now _ _ _ _ _ _ c.in-Some.ensures.cases.0 c.in-Atom.is

pub returns-in-List-clause-seen : goal.returns-in-List-clause-seen
returns-in-List-clause-seen c = rw c.min.ensures (look_list c.args.trees.text.now _ _ _ _ _ _ c.in-Some.ensures.cases.0 c.in-List.is)
