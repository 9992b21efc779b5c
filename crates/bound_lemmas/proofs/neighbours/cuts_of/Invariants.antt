-- Each cut that is there is of one of the atoms.
use Rattle.std.proofs.Common.{All}
use Rattle.bound_lemmas.specs.Pairs.{IsCutOf}
use Rattle.bound_lemmas.proofs.neighbours.cuts_of.Given as goal

abbrev pub invariant-atoms : goal.invariant-atoms
invariant-atoms l = All (IsCutOf l.atoms) l.cuts.items
