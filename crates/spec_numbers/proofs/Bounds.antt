-- Operations within the bound are exact.
use Rattle.std.proofs.Common.{◌≡◌, Bool, true, false, Ok}
use Rattle.spec_numbers.specs.Fractions.{Fraction, plus, minus, times, divide}
use Rattle.spec_numbers.specs.Bounds.{Overflow, checked, added, subtracted, multiplied, divided}

-- what is checked is the result
checked_is : (b : Bool) (x : Fraction) (o : Overflow) (y : Fraction) → checked b x o ≡ Ok y → x ≡ y
checked_is true x o y e = cc
checked_is false x o y e = cc

pub added_is : (x y z : Fraction) → added x y ≡ Ok z → plus x y ≡ z
unfolding added
added_is x y z e = checked_is _ _ _ _ e

pub subtracted_is : (x y z : Fraction) → subtracted x y ≡ Ok z → minus x y ≡ z
unfolding subtracted
subtracted_is x y z e = checked_is _ _ _ _ e

pub multiplied_is : (x y z : Fraction) → multiplied x y ≡ Ok z → times x y ≡ z
unfolding multiplied
multiplied_is x y z e = checked_is _ _ _ _ e

pub divided_is : (x y z : Fraction) → divided x y ≡ Ok z → divide x y ≡ z
unfolding divided
divided_is x y z e = checked_is _ _ _ _ e
