use Rattle.std.proofs.Common.{◌-◌, suc, length}
use Rattle.watch_index.proofs.index.keep_start.Given as goal

abbrev pub invariant-terms : goal.invariant-terms
invariant-terms l = Unit {0}

abbrev pub decreases-terms : goal.decreases-terms
decreases-terms l = suc l.lit.term.0 - length l.found.items
