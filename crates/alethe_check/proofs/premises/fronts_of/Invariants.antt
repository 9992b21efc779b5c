-- The beginnings up to here.
use Rattle.std.proofs.Common.{◌≡◌, All, map, take}
use Rattle.term_core.specs.Tables.{AreIn, clause_at}
use Rattle.alethe_check.specs.Stating.{fronts_numbered}
use Rattle.alethe_check.proofs.premises.fronts_of.Given as goal

abbrev pub invariant-loop-number : goal.invariant-loop-number
invariant-loop-number l = record {
  same : map (clause_at l.state.table) l.made.items ≡ fronts_numbered l.state (take l.number-index l.numbers);
  there : All (λ p. AreIn l.state.table p) l.made.items;
}
