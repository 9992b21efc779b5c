-- The reasons up to here are of watched atoms.
use Rattle.simplex.specs.Hints.{AreOfAtoms}
use Rattle.simplex.proofs.simplex.Simplex.reasons_for.Given as goal

abbrev pub invariant-members : goal.invariant-members
invariant-members l = AreOfAtoms l.self l.reasons.items
