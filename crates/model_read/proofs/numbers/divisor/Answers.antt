-- That an atom is read so.
use Rattle.smt_sexpr.specs.Items.{tree_meant}
use Rattle.model_read.proofs.NumberTexts.{divisor_atom}
use Rattle.model_read.proofs.numbers.divisor.Goals as goal

pub returns-in-Atom : goal.returns-in-Atom
returns-in-Atom c = divisor_atom (tree_meant c.args.text) c.from.result c.in-Atom.at c.in-Atom.kind c.in-Atom.digits.now c.literal_atom.result c.from.ensures c.in-Atom.ensures.seen c.literal_atom.ensures
