-- The marked numbers up to here are listed.
use Rattle.term_clauses.proofs.Listing.{AreListed}
use Rattle.term_clauses.proofs.marks.marked_ids.Given as goal

abbrev pub invariant-marks : goal.invariant-marks
invariant-marks l = record { so_far : AreListed l.marks l.number l.ids.items }
