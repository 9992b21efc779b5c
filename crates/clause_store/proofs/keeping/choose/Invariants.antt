-- The elements up to here were looked at.
use Rattle.clause_store.proofs.Chosen.{AreChosen}
use Rattle.clause_store.proofs.keeping.choose.Given as goal

abbrev pub invariant-items : goal.invariant-items
invariant-items g l = AreChosen l.kept l.fn.items.items l.at l.to l.items.items
