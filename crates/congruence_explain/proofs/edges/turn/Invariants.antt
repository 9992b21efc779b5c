-- The start is the same.
use Rattle.congruence_explain.proofs.edges.turn.Given as goal

abbrev pub ghost-tell_arguments : goal.ghost-tell_arguments
ghost-tell_arguments g a = g.start

abbrev pub ghost-tell_held : goal.ghost-tell_held
ghost-tell_held g a = g.start
