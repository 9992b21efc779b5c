-- The arguments of `la_generic` that are numbers are in lowest terms.
use Rattle.std.proofs.Common.{Bool, true, false, List, [], ◌∷◌, cond}
use Rattle.std.specs.Prelude.{codes}
use Rattle.spec_text.specs.declared.Kind.{Kind}
use Rattle.spec_text.specs.declared.Kind.TheVariants.{Numeral, Decimal}
use Rattle.spec_text.specs.Bytes.{Name}
use Rattle.spec_text.specs.Trees.{Tree, Trees, atom, list, none, more}
use Rattle.spec_numbers.specs.Fractions.{Fraction, inverse, divide, IsReduced}
use Rattle.spec_numbers.specs.Bounds.{Overflow, checked, fits, divided}
use Rattle.spec_numbers.proofs.Field.{times-reduced, opposite-reduced, inverse-reduced}
use Rattle.spec_sorts.specs.Numerals.{is_wide, literal_value}
use Rattle.spec_sorts.proofs.SortsOfValues.{literal_reduced}
use Rattle.spec_arithmetic.specs.Signs.{is_zero}
use Rattle.spec_arithmetic.specs.Contradictions.{Coefficient, given, too_wide, malformed}
use Rattle.spec_arithmetic.specs.Coefficients.{literal_coefficient, atom_coefficient, opposite_coefficient, coefficient_by, quotient_unless, quotient_coefficient, is_word_of, coefficient_of, coefficients_of}

-- a number is in lowest terms
abbrev pub IsReducedCoefficient : Coefficient → Type 0
IsReducedCoefficient (given c) = IsReduced c
IsReducedCoefficient _ = Unit {0}

-- and so is each
abbrev pub AreReduced : List Coefficient → Type 0
AreReduced [] = Unit {0}
AreReduced (c ∷ cs) = IsReducedCoefficient c × AreReduced cs

where_reduced : (b : Bool) (c : Coefficient) → IsReducedCoefficient c → IsReducedCoefficient (cond b c malformed)
where_reduced true c r = r
where_reduced false c r = tt

literal_coefficient_reduced : (n : Name) → IsReducedCoefficient (literal_coefficient n)
literal_coefficient_reduced n = by (is_wide n)
  where
    by : (b : Bool) → IsReducedCoefficient (cond b malformed (given (literal_value n)))
    by true = tt
    by false = literal_reduced n

atom_reduced : (k : Kind) (n : Name) → IsReducedCoefficient (atom_coefficient k n)
atom_reduced Numeral n = literal_coefficient_reduced n
atom_reduced Decimal n = literal_coefficient_reduced n
atom_reduced k n = tt

turned_reduced : (c : Coefficient) → IsReducedCoefficient c → IsReducedCoefficient (opposite_coefficient c)
turned_reduced (given c) r = opposite-reduced c r
turned_reduced (too_wide w) r = tt
turned_reduced malformed r = tt

divided_reduced : (c d : Fraction) → IsReduced c → IsReduced d → IsReducedCoefficient (coefficient_by (divided c d))
unfolding divided
divided_reduced c d r q = by (fits (divide c d)) _
  where
    by : (b : Bool) (o : Overflow) → IsReducedCoefficient (coefficient_by (checked b (divide c d) o))
    by true o = times-reduced c (inverse d) r.positive (inverse-reduced d q).positive
    by false o = tt

unless_reduced : (b : Bool) (c : Coefficient) (d : Fraction) → IsReducedCoefficient c → IsReduced d → IsReducedCoefficient (quotient_unless b c d)
unless_reduced true c d r q = tt
unless_reduced false (given c) d r q = divided_reduced c d r q
unless_reduced false (too_wide w) d r q = tt
unless_reduced false malformed d r q = tt

quotient_reduced : (c d : Coefficient) → IsReducedCoefficient c → IsReducedCoefficient d → IsReducedCoefficient (quotient_coefficient c d)
quotient_reduced malformed d r q = tt
quotient_reduced (given c) malformed r q = tt
quotient_reduced (given c) (too_wide w) r q = tt
quotient_reduced (given c) (given d) r q = unless_reduced (is_zero d) (given c) d r q
quotient_reduced (too_wide w) malformed r q = tt
quotient_reduced (too_wide w) (too_wide v) r q = tt
quotient_reduced (too_wide w) (given d) r q = unless_reduced (is_zero d) (too_wide w) d r q

coefficient_reduced : (t : Tree) → IsReducedCoefficient (coefficient_of t)
unfolding coefficient_of
coefficient_reduced (atom at k n) = atom_reduced k n
coefficient_reduced (list at (more (atom x k w) (more c none)) end) =
    where_reduced (is_word_of (codes "-") k w) (opposite_coefficient (coefficient_of c)) (turned_reduced (coefficient_of c) (coefficient_reduced c))
coefficient_reduced (list at (more (atom x k w) (more c (more d none))) end) =
    where_reduced (is_word_of (codes "/") k w) (quotient_coefficient (coefficient_of c) (coefficient_of d))
    (quotient_reduced (coefficient_of c) (coefficient_of d) (coefficient_reduced c) (coefficient_reduced d))
coefficient_reduced _ = tt

pub coefficients_reduced : (ts : Trees) → AreReduced (coefficients_of ts)
unfolding coefficients_of
coefficients_reduced none = tt
coefficients_reduced (more t ts) = (coefficient_reduced t, coefficients_reduced ts)
