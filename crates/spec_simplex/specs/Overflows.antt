-- What an operation gives on its operands, and what it is to be an overflow.
use Rattle.std.specs.Prelude.{◌≡◌, Result, Err}
use Rattle.spec_numbers.specs.Fractions.{Fraction}
use Rattle.spec_numbers.specs.Bounds.{Overflow, added, subtracted, multiplied, divided}
use Rattle.spec_numbers.specs.declared.Op.{Op}
use Rattle.spec_numbers.specs.declared.Op.TheVariants.{Add, Sub, Mul, Div}

-- what an operation gives on two fractions, exactly or as an overflow
abbrev pub given_by : Op → Fraction → Fraction → Result Fraction Overflow
given_by Add x y = added x y
given_by Sub x y = subtracted x y
given_by Mul x y = multiplied x y
given_by Div x y = divided x y

-- what the operation gives on its operands, exactly or as an overflow
abbrev pub exact : Overflow → Result Fraction Overflow
exact o = given_by o.op o.left o.right

-- the operation leaves the bound on its operands
abbrev pub IsOverflow : Overflow → Type 0
IsOverflow o = exact o ≡ Err o
