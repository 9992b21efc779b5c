-- The order facts of the marked terms up to here came.
use Rattle.std.proofs.Common.{take}
use Rattle.spec_derivations.specs.Orders.{order_facts}
use Rattle.term_clauses.specs.SpokenTerms.{HasMore}
use Rattle.term_clauses.specs.Stating.{Widens}
use Rattle.term_clauses.proofs.Bases.{flat_marked}
use Rattle.clausify.proofs.ordered.add_facts.Given as goal

abbrev pub invariant-marks : goal.invariant-marks
invariant-marks l = record {
  wider : Widens l.fn.table l.table;
  more : HasMore l.fn.table l.table l.fn.ids.items l.ids.items (flat_marked order_facts (take l.number l.marks) l.fn.table.terms);
}
