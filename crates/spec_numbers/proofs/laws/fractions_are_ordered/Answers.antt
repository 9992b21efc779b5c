use Rattle.spec_numbers.proofs.Order.{compare-equal, compare-reversed, compare-trans, compare-plus, compare-times}
use Rattle.spec_numbers.proofs.laws.fractions_are_ordered.Goals as goal

pub returns : goal.returns
returns c = record {
  equal = compare-equal;
  reversed = compare-reversed;
  transitive = λ x y z r q p. compare-trans x y z r.positive q.positive p.positive;
  sum = λ x y z r q p. compare-plus x y z r.positive q.positive p.positive;
  product = λ x y z r q p. compare-times x y z r.positive q.positive p.positive;
}
