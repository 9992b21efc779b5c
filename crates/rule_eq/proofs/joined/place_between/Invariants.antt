-- The places up to here join nothing.
use Rattle.rule_eq.specs.Reasoning.{reasons_meant, HasNoneBetween}
use Rattle.rule_eq.proofs.joined.place_between.Given as goal

abbrev pub invariant-loop-place : goal.invariant-loop-place
invariant-loop-place l = HasNoneBetween l.table (reasons_meant l.table l.reasons) l.pair l.from l.place
