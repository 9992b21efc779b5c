-- Equal terms have one value, so refuted literals are not all true.
use Rattle.spec_equality.proofs.CongruenceSound.{one_value, never_refuted}
use Rattle.spec_equality.proofs.congruence_laws.congruence_is_sound.Goals as goal

pub returns : goal.returns
returns c = record {
  values = λ i listed held true_held. one_value i listed held true_held;
  refuted = λ i listed held refuted true_held. never_refuted i listed held true_held refuted;
}
