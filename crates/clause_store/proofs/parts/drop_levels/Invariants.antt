-- A prefix of the lengths is left.
use Rattle.std.proofs.Common.{length}
use Rattle.clause_store.specs.QuietPairs.{IsPrefixOf}
use Rattle.clause_store.proofs.parts.drop_levels.Given as goal

abbrev pub invariant-prefixes : goal.invariant-prefixes
invariant-prefixes l = IsPrefixOf l.quiet_at.items l.fn.quiet_at.items

abbrev pub decreases-prefixes : goal.decreases-prefixes
decreases-prefixes l = length l.quiet_at.items
