-- The clauses of the rules up to here are stated.
use Rattle.std.proofs.Common.{[], take}
use Rattle.term_core.specs.Tables.{term_at}
use Rattle.term_clauses.specs.Growth.{Grows}
use Rattle.term_clauses.specs.Stating.{listed_steps, Tells, clauses_in}
use Rattle.term_clauses.proofs.statements.state_term.Given as goal

abbrev pub invariant-rules : goal.invariant-rules
invariant-rules l = record {
  grows : Grows [] l.fn.table l.table l.fn.log l.log;
  tells : Tells (listed_steps l.fn.table l.fn.log l.fn.steps.items) (listed_steps l.table l.log l.steps.items) (clauses_in (term_at l.fn.table l.id) (take l.rule-index l.list));
}
