-- The start is the same.
use Rattle.congruence_explain.proofs.explaining.tell_apart.Given as goal

abbrev pub ghost-put_alone : goal.ghost-put_alone
ghost-put_alone g a = g.start
