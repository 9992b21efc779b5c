-- The arguments of a step: texts, and the numbers that they write.
use Rattle.std.specs.Prelude.{◌≡◌, List, map}
use Rattle.spec_text.specs.Trees.{Trees}
use Rattle.spec_numbers.specs.Fractions.{Fraction}
use Rattle.spec_arithmetic.specs.Coefficients.{coefficients_of}
use Rattle.spec_models.specs.Values.{trees_of, fraction_tree}
use Rattle.ratio128.specs.declared.ratio.Ratio.{Ratio}
use Rattle.ratio128.specs.Meant.{fraction}
use Rattle.linear_form.specs.declared.coeff.Coeff.{Coeff}
use Rattle.linear_form.specs.Coefficients.{coefficients_meant}

-- numbers by their texts, one after the other
abbrev pub texts_of : List Fraction → Trees
texts_of qs = trees_of (map fraction_tree qs)

-- the numbers that the code's are
abbrev pub fractions_of : List Ratio → List Fraction
fractions_of qs = map fraction qs

-- the texts write what the code's words mean
abbrev pub WritesCoefficients : Trees → List Coeff → Type 0
WritesCoefficients texts ks = coefficients_meant ks ≡ coefficients_of texts
