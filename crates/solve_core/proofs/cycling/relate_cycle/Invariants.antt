-- The terms are the same.
use Rattle.solve_core.proofs.cycling.relate_cycle.Given as goal

abbrev pub ghost-excluding_all : goal.ghost-excluding_all
ghost-excluding_all g a = g.terms
