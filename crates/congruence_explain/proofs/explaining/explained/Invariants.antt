-- It starts here.
use Rattle.congruence_explain.proofs.explaining.explained.Given as goal

abbrev pub ghost-explain_truths : goal.ghost-explain_truths
ghost-explain_truths g a = record { table = a.table.now; log = a.log.now; facts = g.facts }

abbrev pub ghost-explain_sides : goal.ghost-explain_sides
ghost-explain_sides g a = record { table = a.table.now; log = a.log.now; facts = g.facts }
