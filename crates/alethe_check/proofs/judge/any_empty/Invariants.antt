use Rattle.std.proofs.Common.{◌≡◌, drop}
use Rattle.alethe_check.specs.Judging.{some_empty}
use Rattle.alethe_check.proofs.judge.any_empty.Given as goal

abbrev pub invariant-loop-clause : goal.invariant-loop-clause
invariant-loop-clause l = some_empty (drop l.clause-index l.clauses) ≡ some_empty l.clauses
