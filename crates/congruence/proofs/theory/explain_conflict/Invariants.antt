-- The facts are the same.
use Rattle.congruence.proofs.theory.explain_conflict.Given as goal

abbrev pub ghost-explain : goal.ghost-explain
ghost-explain g a = g.facts
