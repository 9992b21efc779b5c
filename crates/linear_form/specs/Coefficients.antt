-- What an argument of `la_generic` means.
use Rattle.std.specs.Prelude.{List, map}
use Rattle.ratio128.specs.Meant.{fraction, overflow}
use Rattle.spec_arithmetic.specs.Contradictions.{Coefficient, given, too_wide, malformed}
use Rattle.linear_form.specs.declared.coeff.Coeff.{Coeff}
use Rattle.linear_form.specs.declared.coeff.Coeff.TheVariants as coeffs

-- the argument that the code's word means
abbrev pub coefficient_meant : Coeff → Coefficient
coefficient_meant (coeffs.Number q) = given (fraction q)
coefficient_meant (coeffs.Wide w) = too_wide (overflow w)
coefficient_meant coeffs.Shape = malformed

-- the arguments, in their order
abbrev pub coefficients_meant : List Coeff → List Coefficient
coefficients_meant ks = map coefficient_meant ks
