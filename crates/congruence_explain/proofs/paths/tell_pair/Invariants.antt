-- The start is the same.
use Rattle.congruence_explain.proofs.paths.tell_pair.Given as goal

abbrev pub ghost-tell : goal.ghost-tell
ghost-tell g a = g.start
