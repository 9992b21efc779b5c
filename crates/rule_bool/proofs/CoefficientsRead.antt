-- What is printed of numbers is read as the numbers.
use Rattle.std.proofs.Common.{◌≡◌, ℕ, zero, suc, ◌*◌, ◌<◌, ◌^◌, Bool, true, false, cond, ℤ, pos, negsuc, unsigned_abs, List, [], ◌∷◌, ◌++◌, length, drop, map, append-nil, refl, sym, ap, ◌∙◌, arith}
use Rattle.std.specs.Prelude.{codes, ◌||◌, nat_le, nat_eq}
use Rattle.std.proofs.lemmas.Bool.{and_parts}
use Rattle.std.proofs.lemmas.Bool.Decides.{nat_tests}
use Rattle.std.proofs.lemmas.List.{drop_all}
use Rattle.spec_text.specs.declared.Kind.TheVariants.{Numeral, Simple}
use Rattle.spec_text.specs.Trees.{atom, list, none, more}
use Rattle.spec_numbers.specs.Fractions.{Fraction, IsReduced, lowest, whole, opposite, times, inverse, divide}
use Rattle.spec_numbers.specs.Bounds.{Overflow, fits, is_small, checked, divided}
use Rattle.spec_numbers.specs.declared.Op.TheVariants.{Div}
use Rattle.spec_numbers.proofs.Integers.{times_whole}
use Rattle.spec_numbers.proofs.Lowest.{reduced-same}
use Rattle.spec_sorts.specs.Numerals.{whole_digits, point_digits, trimmed, number_after, digits_number, is_wide}
use Rattle.spec_models.specs.Values.{numeral, whole_tree, fraction_tree}
use Rattle.spec_models.proofs.Numerals.{numeral_number, numeral_digits, front_all, literal_numeral}
use Rattle.spec_arithmetic.specs.Signs.{is_zero}
use Rattle.spec_arithmetic.specs.Contradictions.{given, malformed}
use Rattle.spec_arithmetic.specs.Coefficients.{literal_coefficient, opposite_coefficient, coefficient_by, quotient_unless, quotient_coefficient, coefficient_of, coefficients_of}
use Rattle.spec_arithmetic.proofs.Zero.{zero_num}
use Rattle.ratio128.specs.declared.ratio.Ratio.{Ratio}
use Rattle.ratio128.specs.Meant.{fraction}
use Rattle.ratio128.proofs.Bounded.{true_small}
use Rattle.linear_form.specs.declared.coeff.Coeff.TheVariants as coeffs
use Rattle.linear_form.specs.Coefficients.{coefficients_meant}
use Rattle.rule_bool.specs.Arguments.{texts_of, fractions_of}

-- a numeral within the bound
numeral_read : (n : ℕ) → n < 2 ^ 127 → literal_coefficient (numeral n) ≡ given (whole (pos n))
numeral_read n small = λ i. cond (narrow i) malformed (given (literal_numeral n i))
  where
    front_is : whole_digits (numeral n) ≡ numeral n
    front_is = front_all (numeral n) (numeral_digits n)

    no_point : point_digits (numeral n) ≡ []
    no_point = ap (λ (w : List ℕ). trimmed (drop (suc (length w)) (numeral n))) front_is ∙ ap trimmed (drop_all (suc (length (numeral n))) (numeral n) (omega arith))

    number : digits_number (numeral n) ≡ n
    number = (λ i. number_after 0 (front_is i ++ no_point i)) ∙ ap (number_after 0) (append-nil (numeral n)) ∙ numeral_number n

    below : nat_le (2 ^ 127) n ≡ false
    below = grind (arith, nat_tests, small)

    narrow : is_wide (numeral n) ≡ false
    narrow = (λ i. nat_le (2 ^ 127) (number i) || nat_le 39 (length (no_point i))) ∙ ap (λ (b : Bool). b || nat_le 39 0) below

-- a whole number within the bound
whole_read : (z : ℤ) → unsigned_abs z < 2 ^ 127 → coefficient_of (whole_tree z) ≡ given (whole z)
unfolding coefficient_of opposite
whole_read (pos n) small = numeral_read n small
whole_read (negsuc n) small = ap opposite_coefficient (numeral_read (suc n) small)

parts_small : (q : Fraction) → fits q ≡ true → (unsigned_abs q.num < 2 ^ 127) × (q.den < 2 ^ 127)
unfolding fits
parts_small q e =
    let both = and_parts (is_small (unsigned_abs q.num)) (is_small q.den) e in
    (true_small (unsigned_abs q.num) both.0, true_small q.den both.1)

-- a divisor above 0
above_zero : (d : ℕ) → 0 < d → is_zero (whole (pos d)) ≡ false
above_zero d p = go (is_zero (whole (pos d))) refl
  where
    go : (b : Bool) → is_zero (whole (pos d)) ≡ b → b ≡ false
    go true e = let same : pos d ≡ pos 0 = zero_num (whole (pos d)) e in let none : d ≡ 0 = cc in absurd (omega (arith, none, p))
    go false e = refl

-- a whole number over another one
divided_whole : (z : ℤ) (d : ℕ) → 0 < d → divide (whole z) (whole (pos d)) ≡ lowest z d
unfolding times inverse
divided_whole z zero p = absurd (omega (arith, p))
divided_whole z (suc d) p =
    let one : 1 * suc d ≡ suc d = omega arith in
    λ i. lowest (times_whole z i) (one i)

-- the quotient of its parts is the fraction
quotient_read : (q : Fraction) → IsReduced q → fits q ≡ true → quotient_coefficient (given (whole q.num)) (given (whole (pos q.den))) ≡ given q
unfolding divided
quotient_read q r f =
    let same : divide (whole q.num) (whole (pos q.den)) ≡ q = divided_whole q.num q.den r.positive ∙ reduced-same q r in
    let o : Overflow = record { op = Div; left = whole q.num; right = whole (pos q.den) } in
    ap (λ (b : Bool). quotient_unless b (given (whole q.num)) (whole (pos q.den))) (above_zero q.den r.positive)
    ∙ (λ i. coefficient_by (checked (fits (same i)) (same i) o))
    ∙ ap (λ (b : Bool). coefficient_by (checked b q o)) f

-- what is printed of a number is read as the number
pub fraction_read : (q : Fraction) → IsReduced q → fits q ≡ true → given q ≡ coefficient_of (fraction_tree q)
unfolding coefficient_of
fraction_read q r f = sym (go (nat_eq q.den 1) refl)
  where
    small : (unsigned_abs q.num < 2 ^ 127) × (q.den < 2 ^ 127)
    small = parts_small q f

    go : (b : Bool) → nat_eq q.den 1 ≡ b
        → coefficient_of (cond b (whole_tree q.num) (list 0 (more (atom 0 Simple (codes "/")) (more (whole_tree q.num) (more (atom 0 Numeral (numeral q.den)) none))) 0)) ≡ given q
    go true e = let one : q.den ≡ 1 = grind (arith, nat_tests, e) in whole_read q.num small.0 ∙ (λ i. given (record { num = q.num; den = sym one i }))
    go false e = (λ i. quotient_coefficient (whole_read q.num small.0 i) (numeral_read q.den small.1 i)) ∙ quotient_read q r f

-- and so is each
pub fractions_read : (qs : List Ratio) → ((q : Ratio) → IsReduced (fraction q)) → ((q : Ratio) → fits (fraction q) ≡ true)
    → coefficients_meant (map coeffs.Number qs) ≡ coefficients_of (texts_of (fractions_of qs))
unfolding coefficients_of
fractions_read [] r f = refl
fractions_read (q ∷ qs) r f = λ i. fraction_read (fraction q) (r q) (f q) i ∷ fractions_read qs r f i
