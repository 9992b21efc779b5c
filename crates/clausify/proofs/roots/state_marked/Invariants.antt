-- The clauses of the marked terms up to here are stated.
use Rattle.std.proofs.Common.{[], take}
use Rattle.std.specs.Prelude.{flat_map}
use Rattle.spec_derivations.specs.Orders.{whole_clauses_of}
use Rattle.term_clauses.specs.Growth.{Grows}
use Rattle.term_clauses.specs.Stating.{listed_steps, Tells}
use Rattle.term_clauses.specs.Marks.{marked}
use Rattle.clausify.proofs.roots.state_marked.Given as goal

abbrev pub invariant-marks : goal.invariant-marks
invariant-marks l = record {
  grows : Grows [] l.fn.table l.table l.fn.log l.log;
  tells : Tells (listed_steps l.fn.table l.fn.log l.fn.steps.items) (listed_steps l.table l.log l.steps.items) (flat_map whole_clauses_of (marked (take l.number l.marks) l.fn.table.terms));
}
