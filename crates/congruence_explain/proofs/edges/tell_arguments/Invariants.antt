-- The start is the same.
use Rattle.congruence_explain.proofs.edges.tell_arguments.Given as goal

abbrev pub ghost-tell_pairs : goal.ghost-tell_pairs
ghost-tell_pairs g a = g.start

abbrev pub ghost-put_alone : goal.ghost-put_alone
ghost-put_alone g a = g.start
