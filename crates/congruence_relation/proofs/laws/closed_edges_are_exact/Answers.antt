-- Edges with reasons are sound, and closed ones are complete.
use Rattle.congruence_relation.proofs.Exact.{linked_congruent, congruent_linked}
use Rattle.congruence_relation.proofs.laws.closed_edges_are_exact.Goals as goal

pub returns : goal.returns
returns c = record {
  sound = λ f es. linked_congruent f es;
  complete = λ f es. congruent_linked f es;
}
