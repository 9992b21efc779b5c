-- The start is the same.
use Rattle.congruence_explain.proofs.putting.put_alone.Given as goal

abbrev pub ghost-put : goal.ghost-put
ghost-put g a = g.start
