-- There is nothing that could not fit.
use Rattle.simplex_atoms.proofs.Fitting.{right_first}
use Rattle.simplex_atoms.proofs.laws.no_atoms_fit.Goals as goal

pub returns : goal.returns
returns c = right_first
