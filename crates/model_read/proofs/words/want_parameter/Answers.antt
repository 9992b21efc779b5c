-- Whether an atom is the name.
use Rattle.std.proofs.Common.{sym, ◌∙◌}
use Rattle.smt_sexpr.specs.Items.{tree_meant}
use Rattle.model_read.proofs.NamedWords.{parameter_is, parameter_is_none}
use Rattle.model_read.proofs.words.want_parameter.Goals as goal

pub returns-then-is_word : goal.returns-then-is_word
returns-then-is_word c = parameter_is c.args.name.now (tree_meant c.args.text) c.in-Atom.at c.in-Atom.kind c.in-Atom.bytes.now c.in-Atom.ensures.seen (sym c.is_word.ensures ∙ c.if-is_word.true)

pub returns-else-is_word : goal.returns-else-is_word
returns-else-is_word c =
    parameter_is_none c.args.name.now (tree_meant c.args.text) c.in-Atom.at c.from-in-Atom.result c.in-Atom.kind c.in-Atom.bytes.now c.fault_at.result c.in-Atom.ensures.seen
    (sym c.is_word.ensures ∙ c.if-is_word.false) c.from-in-Atom.ensures c.fault_at.ensures
