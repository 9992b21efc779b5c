-- The clauses up to here.
use Rattle.std.proofs.Common.{take}
use Rattle.std.specs.List.{AllZip}
use Rattle.clause_literals.specs.Literals.{lists, IsSetOf}
use Rattle.clause_literals.proofs.distinct.distinct_each.Given as goal

abbrev pub invariant-loop-clause : goal.invariant-loop-clause
invariant-loop-clause l = AllZip IsSetOf (take l.clause-index (lists l.clauses)) (lists l.made.items)
