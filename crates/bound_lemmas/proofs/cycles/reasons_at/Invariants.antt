-- Each literal that is there is of one of the atoms.
use Rattle.bound_lemmas.specs.Cycles.{AreReasonsOf}
use Rattle.bound_lemmas.proofs.cycles.reasons_at.Given as goal

abbrev pub invariant-places : goal.invariant-places
invariant-places l = AreReasonsOf l.atoms l.reasons.items
