-- The terms are the watched ones.
use Rattle.simplex.proofs.simplex.Simplex.lemma.Given as goal

abbrev pub ghost-refute : goal.ghost-refute
ghost-refute g a = g.watched
