-- Those before a place are true.
use Rattle.std.proofs.Common.{◌≡◌, ◌-◌, ◌+◌, length, drop}
use Rattle.spec_sorts.specs.Values.{Interpretation}
use Rattle.term_walks.specs.Valuations.{HasSymbolTables}
use Rattle.model_judge.specs.Untrue.{first_untrue_at}
use Rattle.model_judge.proofs.untrue.first_untrue.Given as goal

abbrev pub invariant-rounds : goal.invariant-rounds
invariant-rounds l = record {
  same : l.table ≡ l.fn.table;
  passed : (i : Interpretation) → HasSymbolTables l.fn.table l.interp i → first_untrue_at l.fn.table i l.expressions ≡ first_untrue_at l.fn.table i (drop l.place l.expressions);
}

abbrev pub decreases-rounds : goal.decreases-rounds
decreases-rounds l = (length l.expressions - l.place) + l.step
