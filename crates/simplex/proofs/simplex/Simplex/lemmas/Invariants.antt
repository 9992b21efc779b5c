-- What came are lemmas, and the steps are those of some.
use Rattle.proof_log.specs.Logs.{AreStepsOf}
use Rattle.proof_log.specs.Theories.{terms_watched, DerivesLemmas, derived}
use Rattle.simplex.proofs.simplex.Simplex.lemmas.Given as goal

abbrev pub invariant-hints : goal.invariant-hints
invariant-hints l = DerivesLemmas (terms_watched l.fn.table l.self.theory) (derived l.fn.table l.fn.log) (derived l.table l.log) × AreStepsOf l.log l.steps.items

abbrev pub ghost-lemma : goal.ghost-lemma
ghost-lemma a = terms_watched a.table.now a.self.now.theory
