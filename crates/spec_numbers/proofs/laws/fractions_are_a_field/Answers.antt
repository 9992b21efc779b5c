use Rattle.spec_numbers.proofs.Field.{plus-assoc, plus-comm, plus-zero, plus-opposite, times-assoc, times-comm, times-one, times-inverse, times-plus}
use Rattle.spec_numbers.proofs.laws.fractions_are_a_field.Goals as goal

pub returns : goal.returns
returns c = record {
  sum_associative = plus-assoc;
  sum_commutative = plus-comm;
  zero = plus-zero;
  opposite = plus-opposite;
  product_associative = times-assoc;
  product_commutative = times-comm;
  one = times-one;
  inverse = times-inverse;
  distributive = times-plus;
}
