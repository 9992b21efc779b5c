-- The terms are the same.
use Rattle.bound_lemmas.proofs.stating.excluding_all.Given as goal

abbrev pub ghost-refute : goal.ghost-refute
ghost-refute g a = g.terms
