-- The terms are the same.
use Rattle.solve_core.proofs.bounding.relate.Given as goal

abbrev pub ghost-excluding : goal.ghost-excluding
ghost-excluding g a = g.terms
