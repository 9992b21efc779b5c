-- The terms are the same.
use Rattle.bound_lemmas.proofs.stating.excluding.Given as goal

abbrev pub ghost-excluding_all : goal.ghost-excluding_all
ghost-excluding_all g a = g.terms
