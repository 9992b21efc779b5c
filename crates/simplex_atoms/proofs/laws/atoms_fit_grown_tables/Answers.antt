-- Terms keep their numbers.
use Rattle.simplex_atoms.proofs.Fitting.{right_after}
use Rattle.simplex_atoms.proofs.laws.atoms_fit_grown_tables.Goals as goal

pub returns : goal.returns
returns c = right_after
