-- The terms are the same.
use Rattle.simplex_explain.proofs.explaining.explain.Given as goal

abbrev pub ghost-refute : goal.ghost-refute
ghost-refute g a = g.terms
