-- Fractions worked out.
use Rattle.std.specs.Prelude.{◌≡◌, ◌+◌, ◌-◌, ◌*◌, ◌^◌, pos, negsuc, true, false, Ok, Err, refl}
use Rattle.std.proofs.Common.{Less, Greater}
use Rattle.spec_numbers.specs.Fractions.{gcd, whole, lowest, plus, minus, opposite, times, inverse, divide, compare}
use Rattle.spec_numbers.specs.Bounds.{is_small, fits, sum_fits, added, multiplied, divided}
use Rattle.spec_numbers.specs.declared.Op.TheVariants.{Add, Mul}

-- -6 / 4 is -3 / 2 in lowest terms
pub lowest_terms : lowest (negsuc 5) 4 ≡ record { num = negsuc 2; den = 2 }
unfolding gcd
lowest_terms = refl

-- 1/6 + 1/3 is 1/2
pub sum : plus (record { num = pos 1; den = 6 }) (record { num = pos 1; den = 3 }) ≡ record { num = pos 1; den = 2 }
unfolding gcd plus
sum = refl

-- 1/2 - 1/3 is 1/6
pub difference : minus (record { num = pos 1; den = 2 }) (record { num = pos 1; den = 3 })
    ≡ record { num = pos 1; den = 6 }
unfolding gcd plus opposite
difference = refl

-- 2/3 times -3/4 is -1/2
pub product : times (record { num = pos 2; den = 3 }) (record { num = negsuc 2; den = 4 })
    ≡ record { num = negsuc 0; den = 2 }
unfolding gcd times
product = refl

-- 1/2 over -3/4 is -2/3
pub quotient : divide (record { num = pos 1; den = 2 }) (record { num = negsuc 2; den = 4 })
    ≡ record { num = negsuc 1; den = 3 }
unfolding gcd times inverse
quotient = refl

-- -1/2 is less than -1/3, and 1/2 is greater than 1/3
pub order_below_zero : compare (record { num = negsuc 0; den = 2 }) (record { num = negsuc 0; den = 3 }) ≡ Less
unfolding compare
order_below_zero = refl

pub order_above_zero : compare (record { num = pos 1; den = 2 }) (record { num = pos 1; den = 3 }) ≡ Greater
unfolding compare
order_above_zero = refl

-- 2^127 - 1 is within the bound, its negative too, and one more is not
pub greatest : fits (whole (pos (2 ^ 127 - 1))) ≡ true
unfolding fits is_small
greatest = refl

pub least : fits (opposite (whole (pos (2 ^ 127 - 1)))) ≡ true
unfolding fits is_small opposite
least = refl

pub one_more : added (whole (pos (2 ^ 127 - 1))) (whole (pos 1))
    ≡ Err (record { op = Add; left = whole (pos (2 ^ 127 - 1)); right = whole (pos 1) })
unfolding gcd added sum_fits fits is_small plus
one_more = refl

-- The result fits, and a numerator over the least common multiple does not: (2^126 + 1) / 2 - (3 * 2^125 + 1) / 3 is
-- 1/6.
pub result_fits : fits (minus (record { num = pos (2 ^ 126 + 1); den = 2 }) (record {
  num = pos (3 * 2 ^ 125 + 1);
  den = 3;
})) ≡ true
unfolding gcd fits is_small plus opposite
result_fits = refl

pub cross_products_do_not : sum_fits (record { num = pos (2 ^ 126 + 1); den = 2 })
    (opposite (record { num = pos (3 * 2 ^ 125 + 1); den = 3 })) ≡ false
unfolding gcd sum_fits fits is_small plus opposite
cross_products_do_not = refl

-- 2^126 / 3 times 3 / 2^126 is 1, though the products of the parts are beyond the bound
pub cut_product : multiplied (record { num = pos (2 ^ 126); den = 3 }) (record { num = pos 3; den = 2 ^ 126 })
    ≡ Ok (whole (pos 1))
unfolding gcd multiplied fits is_small times
cut_product = refl

pub wide_product : multiplied (whole (pos (2 ^ 64))) (whole (pos (2 ^ 63)))
    ≡ Err (record { op = Mul; left = whole (pos (2 ^ 64)); right = whole (pos (2 ^ 63)) })
unfolding gcd multiplied fits is_small times
wide_product = refl

-- 1 over 3 is within the bound
pub third : divided (whole (pos 1)) (whole (pos 3)) ≡ Ok (record { num = pos 1; den = 3 })
unfolding gcd divided fits is_small times inverse
third = refl
