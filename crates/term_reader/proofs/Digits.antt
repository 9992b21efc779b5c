-- Digits one after the other, and the number that they write.
use Rattle.std.proofs.Common.{◌≡◌, ℕ, zero, suc, ◌+◌, ◌*◌, ◌-◌, ◌<◌, ◌≤◌, ◌^◌, ℤ, pos, true, false, List, [], ◌∷◌, ◌++◌, length, refl, sym, ap, ◌∙◌, subst, arith}
use Rattle.std.specs.Prelude.{not, Ok, Err}
use Rattle.std.proofs.Math.Nat.{pow-le-pow_right, one-le-pow}
use Rattle.std.proofs.lemmas.Bool.Decides.{nat_tests}
use Rattle.term_reader.specs.Numbers.{are_wide}
use Rattle.spec_numbers.specs.Fractions.{Fraction, lowest, divide, whole, times, inverse}
use Rattle.spec_numbers.proofs.Integers.{times_whole}
use Rattle.spec_sorts.specs.Numerals.{whole_digits, point_digits, trimmed, before_trimmed, number_after, literal_value, is_wide}
use Rattle.spec_sorts.proofs.General.{number_along}
use Rattle.spec_text.specs.declared.Fault.TheVariants.{NumberWide}
use Rattle.spec_text.specs.Answers.{require, ◌>>=◌}
use Rattle.spec_sorts.specs.Terms.{Literal, of}
use Rattle.spec_reading.specs.Reading.{literal}

-- more digits never write less
pub number_grows : (n : ℕ) (ds : List ℕ) → n ≤ number_after n ds
number_grows n [] = omega arith
number_grows n (d ∷ ds) = omega (arith, number_grows (n * 10 + (d - 48)) ds)

-- a zero at the end
pub trimmed_zero : (ds : List ℕ) (d : ℕ) → d ≡ 48 → trimmed (ds ++ d ∷ []) ≡ trimmed ds
trimmed_zero [] d e = subst (λ x. trimmed (x ∷ []) ≡ []) (sym e) refl
trimmed_zero (c ∷ ds) d e = ap (before_trimmed c) (trimmed_zero ds d e)

-- a whole number over another one
pub whole_over : (z : ℤ) (d : ℕ) → 0 < d → divide (whole z) (whole (pos d)) ≡ lowest z d
unfolding times inverse
whole_over z zero p = absurd (omega (arith, p))
whole_over z (suc d) p =
    let one : 1 * suc d ≡ suc d = omega arith in
    λ i. lowest (times_whole z i) (one i)

pub ten_is_small : (k : ℕ) → k ≤ 38 → 10 ^ k < 2 ^ 127
ten_is_small k h =
    let most : 10 ^ k ≤ 10 ^ 38 = pow-le-pow_right {n = 10} (omega arith) h in
    let bound : 10 ^ 38 < 2 ^ 127 = omega arith in
    omega (arith, most, bound)

pub ten_is_positive : (k : ℕ) → 0 < 10 ^ k
ten_is_positive k = one-le-pow k 10 (omega arith)

-- the digits are too many or write too much, or neither
pub wide_by_places : (whole places : List ℕ) → 38 < length places → are_wide whole places ≡ true
wide_by_places whole places h = grind (arith, nat_tests, h)

pub wide_by_whole : (whole places : List ℕ) → ¬ (number_after 0 whole < 2 ^ 127) → are_wide whole places ≡ true
wide_by_whole whole places h = grind (arith, nat_tests, number_along 0 whole places, number_grows (number_after 0 whole) places, h)

pub wide_by_places_number : (whole places : List ℕ) (n : ℕ) → n ≡ number_after 0 whole → ¬ (number_after n places < 2 ^ 127) → are_wide whole places ≡ true
wide_by_places_number whole places n is h = grind (arith, nat_tests, number_along 0 whole places, is, h)

pub not_wide : (whole places : List ℕ) (n m : ℕ) → n ≡ number_after 0 whole → m ≡ number_after n places → m < 2 ^ 127 → length places ≤ 38 → are_wide whole places ≡ false
not_wide whole places n m is also small few = grind (arith, nat_tests, number_along 0 whole places, is, also, small, few)

-- the literal of those digits
pub literal_wide : (at : ℕ) (digits whole places : List ℕ) → whole ≡ whole_digits digits → places ≡ point_digits digits → are_wide whole places ≡ true → literal at digits ≡ Err (record { offset = at; fault = NumberWide })
unfolding require ◌>>=◌
literal_wide at digits whole places w p h =
    let wide : is_wide digits ≡ true = subst (λ ds. are_wide ds (point_digits digits) ≡ true) w (subst (λ ds. are_wide whole ds ≡ true) p h) in
    ap (λ b. require (not b) at NumberWide >>= λ fits. Ok (of (Literal (literal_value digits)) [])) wide

pub literal_fits : (at : ℕ) (digits whole places : List ℕ) (x : Fraction) → whole ≡ whole_digits digits → places ≡ point_digits digits → are_wide whole places ≡ false → x ≡ lowest (pos (number_after 0 (whole ++ places))) (10 ^ length places) → literal at digits ≡ Ok (of (Literal x) [])
unfolding require ◌>>=◌ literal_value
literal_fits at digits whole places x w p h is =
    let fits : is_wide digits ≡ false = subst (λ ds. are_wide ds (point_digits digits) ≡ false) w (subst (λ ds. are_wide whole ds ≡ false) p h) in
    let same : x ≡ literal_value digits = is ∙ ap (λ ds. lowest (pos (number_after 0 (ds ++ places))) (10 ^ length places)) w ∙ ap (λ ds. lowest (pos (number_after 0 (whole_digits digits ++ ds))) (10 ^ length ds)) p in
    ap (λ b. require (not b) at NumberWide >>= λ fits. Ok (of (Literal (literal_value digits)) [])) fits ∙ ap (λ y. Ok (of (Literal y) [])) (sym same)
