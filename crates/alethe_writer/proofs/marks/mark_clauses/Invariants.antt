-- The terms of the marked clauses up to here are marked.
use Rattle.alethe_writer.proofs.Printed.{AreOfFirst}
use Rattle.alethe_writer.proofs.marks.mark_clauses.Given as goal

abbrev pub invariant-clauses : goal.invariant-clauses
invariant-clauses l = record { so_far : AreOfFirst l.table l.log l.support l.number l.marks }
