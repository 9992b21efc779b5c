use Rattle.agreement.specs.Agreeing.{HasPairs}
use Rattle.agreement.proofs.agreeing.add_urgent.Given as goal

abbrev pub invariant-places : goal.invariant-places
invariant-places l = HasPairs l.shared l.fn.pairs.items l.pairs.items
