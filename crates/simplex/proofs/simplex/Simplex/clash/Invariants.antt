-- The terms are the watched ones.
use Rattle.proof_log.specs.Theories.{terms_watched}
use Rattle.simplex.proofs.simplex.Simplex.clash.Given as goal

abbrev pub ghost-reasons : goal.ghost-reasons
ghost-reasons g a = g.of

abbrev pub ghost-explain : goal.ghost-explain
ghost-explain g a = terms_watched g.of.table g.of.simplex.theory
