-- The facts are the same.
use Rattle.congruence_explain.proofs.explaining.explain.Given as goal

abbrev pub ghost-explained : goal.ghost-explained
ghost-explained g a = g.facts
