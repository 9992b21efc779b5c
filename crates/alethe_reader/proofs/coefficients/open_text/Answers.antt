-- That an atom writes this number.
use Rattle.std.proofs.Common.{◌∙◌, ap}
use Rattle.spec_arithmetic.specs.Coefficients.{coefficient_of}
use Rattle.alethe_reader.proofs.CoefficientTexts.{atom_number}
use Rattle.alethe_reader.proofs.coefficients.open_text.Goals as goal

pub returns-in-Atom-clause-number : goal.returns-in-Atom-clause-number
returns-in-Atom-clause-number c = c.atom_coefficient.ensures ∙ atom_number _ c.in-Atom.kind c.in-Atom.name.now ∙ ap coefficient_of c.in-Atom.ensures.seen
