use Rattle.agreement.specs.Agreeing.{HasClashesBelow}
use Rattle.agreement.proofs.agreeing.add_clashes.Given as goal

abbrev pub invariant-places : goal.invariant-places
invariant-places l = HasClashesBelow l.shared l.at l.fn.pairs.items l.pairs.items
