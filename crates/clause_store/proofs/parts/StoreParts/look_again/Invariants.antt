-- The literals of those up to here hold.
use Rattle.std.proofs.Common.{ℕ, get_or, take, Contains}
use Rattle.clause_store.specs.Entries.{bare}
use Rattle.clause_store.specs.Stores.{no_pair}
use Rattle.clause_store.specs.Propagating.{Advances}
use Rattle.clause_store.specs.Watching.{AreKnownIn}
use Rattle.clause_store.proofs.parts.StoreParts.look_again.Given as goal

abbrev pub invariant-loop-n : goal.invariant-loop-n
invariant-loop-n l = record {
  advances : Advances (bare l.self.watched.entries.items) l.fn.trail l.trail;
  known : AreKnownIn l.self.watched l.trail.vars;
  hold : (n : ℕ) → Contains (take l.n-index l.self.short.items) n → Contains l.trail.literals (get_or l.self.watched.pairs.items n no_pair).first;
}
