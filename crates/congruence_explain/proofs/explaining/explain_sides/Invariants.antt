-- The start is the same.
use Rattle.congruence_explain.proofs.explaining.explain_sides.Given as goal

abbrev pub ghost-collect : goal.ghost-collect
ghost-collect g a = g.start

abbrev pub ghost-put_alone : goal.ghost-put_alone
ghost-put_alone g a = g.start

abbrev pub ghost-put_needed : goal.ghost-put_needed
ghost-put_needed g a = g.start
