-- The start is the same.
use Rattle.congruence_explain.proofs.edges.tell_held.Given as goal

abbrev pub ghost-tell_decided : goal.ghost-tell_decided
ghost-tell_decided g a = g.start
