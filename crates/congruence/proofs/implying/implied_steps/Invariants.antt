-- What it is about is as it was, what came are lemmas, and what was listed are steps.
use Rattle.std.specs.Prelude.{◌≡◌}
use Rattle.proof_log.specs.Logs.{AreStepsOf}
use Rattle.proof_log.specs.Theories.{derived, terms_watched, DerivesLemmas}
use Rattle.congruence.specs.Views.{theory_of}
use Rattle.congruence.proofs.implying.implied_steps.Given as goal

abbrev pub invariant-terms : goal.invariant-terms
invariant-terms l = record {
  now : l.closure.now ≡ l.fn.closure.now;
  marks : l.closure.marks ≡ l.fn.closure.marks;
  derives : DerivesLemmas (terms_watched l.fn.table (theory_of l.fn.closure)) (derived l.fn.table l.fn.log) (derived l.table l.log);
  steps : AreStepsOf l.log l.steps.items;
}
