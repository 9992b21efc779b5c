-- The premises up to here.
use Rattle.std.proofs.Common.{map, take}
use Rattle.term_core.specs.Tables.{clause_at}
use Rattle.clause_literals.specs.Literals.{lists}
use Rattle.rule_bool.specs.Resolvents.{MeansEach}
use Rattle.rule_bool.proofs.resolvent.premises_of.Given as goal

abbrev pub invariant-loop-premise : goal.invariant-loop-premise
invariant-loop-premise l = MeansEach l.table (lists l.found.items) (map (clause_at l.table) (take l.premise-index l.premises))
