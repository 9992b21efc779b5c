-- A table that grows keeps its facts.
use Rattle.congruence_relation.proofs.Kept.{of_more, listed_same, held_same}
use Rattle.congruence_relation.proofs.laws.facts_stay_over_more_terms.Goals as goal

pub returns : goal.returns
returns c = record {
  of = λ t u f grows whole. of_more t u grows f whole;
  listed = λ t u f grows whole. listed_same t u grows f whole;
  held = λ t u f grows whole. held_same t u grows f whole;
}
