-- The best is another one.
use Rattle.clause_store.specs.Watching.{IsAnother}
use Rattle.clause_store.proofs.literals.latest_but.Given as goal

abbrev pub invariant-loop-l : goal.invariant-loop-l
invariant-loop-l l = IsAnother l.clause l.other l.best
