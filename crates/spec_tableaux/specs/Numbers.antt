-- Fractions as an ordered field.
use Rattle.std.specs.Prelude.{pos}
use Rattle.std.specs.Int.RustNames.{int_lt}
use Rattle.std.specs.Ordering.{int_eq}
use Rattle.spec_numbers.specs.Fractions.{Fraction, IsReduced, zero_fraction, one_fraction, plus, times, opposite}
use Rattle.spec_numbers.specs.Fractions.{inverse}
use Rattle.spec_numbers.proofs.Field.{zero-reduced, one-reduced, plus-reduced, times-reduced, opposite-reduced}
use Rattle.spec_numbers.proofs.Field.{inverse-reduced}
use Rattle.spec_tableaux.specs.Fields.{Field}

-- the operations on fractions
unfoldable pub fractions : Field Fraction
fractions = record {
  zero = zero_fraction;
  one = one_fraction;
  plus = plus;
  times = times;
  opposite = opposite;
  inverse = inverse;
  is_zero = λ x. int_eq x.num (pos 0);
  is_negative = λ x. int_lt x.num (pos 0);
}

-- A fraction that is in lowest terms. Of these each law holds without a premise.
pub record Number : Type 0 where
  pub fraction : Fraction
  pub reduced : IsReduced fraction

-- the operations on fractions in lowest terms
unfoldable pub numbers : Field Number
unfolding fractions
numbers = record {
  zero = record { fraction = fractions.zero; reduced = zero-reduced };
  one = record { fraction = fractions.one; reduced = one-reduced };
  plus = λ x y. record {
    fraction = fractions.plus x.fraction y.fraction;
    reduced = plus-reduced x.fraction y.fraction x.reduced.positive y.reduced.positive;
  };
  times = λ x y. record {
    fraction = fractions.times x.fraction y.fraction;
    reduced = times-reduced x.fraction y.fraction x.reduced.positive y.reduced.positive;
  };
  opposite = λ x. record { fraction = fractions.opposite x.fraction; reduced = opposite-reduced x.fraction x.reduced };
  inverse = λ x. record { fraction = fractions.inverse x.fraction; reduced = inverse-reduced x.fraction x.reduced };
  is_zero = λ x. fractions.is_zero x.fraction;
  is_negative = λ x. fractions.is_negative x.fraction;
}
