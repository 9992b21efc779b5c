-- Operations on fractions by their names.
use Rattle.std.specs.Prelude.{Result}
use Rattle.spec_numbers.specs.Fractions.{Fraction}
use Rattle.spec_numbers.specs.Bounds.{Overflow, added, subtracted, multiplied, divided}
use Rattle.spec_numbers.specs.declared.Op.{Op}
use Rattle.spec_numbers.specs.declared.Op.TheVariants.{Add, Sub, Mul, Div}

-- what the operation gives at two fractions, or its overflow
abbrev pub operated : Op → Fraction → Fraction → Result Fraction Overflow
operated Add x y = added x y
operated Sub x y = subtracted x y
operated Mul x y = multiplied x y
operated Div x y = divided x y
