-- The start is the same.
use Rattle.congruence_explain.proofs.choosing.put_needed.Given as goal

abbrev pub ghost-last_step : goal.ghost-last_step
ghost-last_step g a = g.start

abbrev pub ghost-put : goal.ghost-put
ghost-put g a = g.start
