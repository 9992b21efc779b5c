-- Each pair that is there is of the atoms.
use Rattle.std.proofs.Common.{All}
use Rattle.bound_lemmas.specs.Pairs.{IsPairOf}
use Rattle.bound_lemmas.proofs.neighbours.pairs_of.Given as goal

abbrev pub invariant-places : goal.invariant-places
invariant-places l = All (IsPairOf l.atoms) l.pairs.items
