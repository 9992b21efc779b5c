-- What the marked terms up to here share came.
use Rattle.std.proofs.Common.{[], take}
use Rattle.term_clauses.proofs.Bases.{flat_marked}
use Rattle.solve_core.specs.Sharing.{shared_by, AddsSharedTerms}
use Rattle.solve_core.proofs.sharing.shared_terms.Given as goal

abbrev pub invariant-marks : goal.invariant-marks
invariant-marks l = AddsSharedTerms l.table [] l.ids.items (flat_marked shared_by (take l.number l.marks.items) l.table.terms)
