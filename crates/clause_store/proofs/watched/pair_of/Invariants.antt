-- All up to here are the first.
use Rattle.std.proofs.Common.{◌≡◌, take, Contains}
use Rattle.term_core.specs.declared.ids.Lit.{Lit}
use Rattle.clause_store.proofs.watched.pair_of.Given as goal

abbrev pub invariant-loop-l : goal.invariant-loop-l
invariant-loop-l l = (m : Lit) → Contains (take l.l-index l.clause) m → m ≡ l.first
