-- The table and the rows are those over which it is checked.
use Rattle.simplex.proofs.simplex.Simplex.reasons.Given as goal

abbrev pub ghost-crossing_reasons : goal.ghost-crossing_reasons
ghost-crossing_reasons g a = record { table = g.of.table; assignment = g.of.simplex.assignment }

abbrev pub ghost-row_reasons : goal.ghost-row_reasons
ghost-row_reasons g a = g.of.table
