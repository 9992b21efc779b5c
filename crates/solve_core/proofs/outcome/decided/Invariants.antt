-- The terms of the roots are asked about.
use Rattle.term_core.specs.Tables.{clause_at}
use Rattle.solve_core.proofs.outcome.decided.Given as goal

abbrev pub ghost-answer : goal.ghost-answer
ghost-answer a = clause_at a.table.now a.roots.now
