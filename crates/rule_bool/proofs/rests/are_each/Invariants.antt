-- The terms up to here are the arguments up to here.
use Rattle.std.proofs.Common.{◌≡◌, map, take}
use Rattle.spec_rules.specs.Schemes.{signed_term}
use Rattle.term_core.specs.Tables.{clause_at}
use Rattle.rule_bool.proofs.rests.are_each.Given as goal

abbrev pub invariant-loop-at : goal.invariant-loop-at
invariant-loop-at l = map (signed_term l.positive) (clause_at l.table (take l.at l.arguments)) ≡ clause_at l.table (take l.at l.ids)
