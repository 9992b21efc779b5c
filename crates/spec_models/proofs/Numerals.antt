-- Numerals: their digits, and the number that they write.
use Rattle.std.proofs.Common.{◌≡◌, ℕ, zero, suc, ◌+◌, ◌-◌, ◌*◌, ◌/◌, ◌%◌, ◌^◌, ◌<◌, ◌≤◌, List, [], ◌∷◌, ◌++◌, length, drop, map, get_or, Some, None, cond, pos, refl, sym, ap, ◌∙◌, arith, append_assoc, append-nil, subst, le-leb, ne_eqb, false}
use Rattle.std.specs.Prelude.{decimal, ◌==◌}
use Rattle.std.specs.Str.{bytes_eq}
use Rattle.std.specs.Int.Digits.{digits_of, number_from_digits_after, AllBelowBase}
use Rattle.std.proofs.lemmas.Int.Digits.{digits_of_step, all_below_base_digits_of, first_digits_of, number_digits_of}
use Rattle.std.proofs.lemmas.Fmt.{decimal_by_steps_wide, decimal_digit}
use Rattle.std.proofs.lemmas.List.{map-append, drop_all}
use Rattle.spec_text.specs.Bytes.{is_digit, is_symbol_byte, front}
use Rattle.spec_text.specs.Lexicon.{Consists, IsNumeral, only_zero, digits}
use Rattle.spec_text.proofs.General.{bytes_itself}
use Rattle.spec_numbers.specs.Fractions.{IsReduced, gcd, lowest, whole}
use Rattle.spec_numbers.proofs.Lowest.{reduced-same}
use Rattle.spec_sorts.specs.Numerals.{number_after, trimmed, whole_digits, point_digits, literal_value}
use Rattle.spec_models.specs.Values.{digits_before, numeral, element_word}
use Rattle.spec_models.specs.Meaning.{element_number}

-- digits by their bytes
abbrev glyphs : List ℕ → List ℕ
glyphs ds = map (λ d. 48 + d) ds

glyphs_are_digits : (ds : List ℕ) → AllBelowBase 10 ds → Consists is_digit (glyphs ds)
glyphs_are_digits [] h = tt
glyphs_are_digits (d ∷ ds) h = (rw (le-leb 48 (48 + d) (omega arith), le-leb (48 + d) 57 (omega (arith, h.0))) refl, glyphs_are_digits ds h.1)

glyphs_number : (ds : List ℕ) (n : ℕ) → number_after n (glyphs ds) ≡ number_from_digits_after 10 n ds
glyphs_number [] n = refl
glyphs_number (d ∷ ds) n = ap (λ k. number_after (n * 10 + k) (glyphs ds)) (back d) ∙ glyphs_number ds (n * 10 + d)
  where
    back : (k : ℕ) → 48 + k - 48 ≡ k
    back k = omega arith

-- the digits before others are those of the number
digits_are : (k m : ℕ) (later : List ℕ) → m ≤ k → digits_before (suc k) (m == 0) m later ≡ glyphs (digits_of 10 m) ++ later
digits_are k zero later le = refl
digits_are zero (suc j) later le = absurd (omega (arith, le))
digits_are (suc k) (suc j) later le =
    ap (λ c. digits_before (suc (suc k)) c (suc j) later) (some j)
    ∙ digits_are k (suc j / 10) ((48 + suc j % 10) ∷ later) (omega (arith, le))
    ∙ sym (append_assoc (glyphs (digits_of 10 (suc j / 10))) ((48 + suc j % 10) ∷ []) later)
    ∙ ap (λ ds. ds ++ later) (sym (map-append (λ d. 48 + d) (digits_of 10 (suc j / 10)) (suc j % 10 ∷ [])) ∙ ap glyphs (sym (digits_of_step 10 (suc j) (omega arith) (omega arith))))
  where
    some : (n : ℕ) → (suc n == 0) ≡ false
    some n = ne_eqb (suc n) 0 (λ e. omega (arith, e))

-- a numeral above 0 has the digits of its number
numeral_glyphs : (n : ℕ) → numeral (suc n) ≡ glyphs (digits_of 10 (suc n))
unfolding numeral
numeral_glyphs n = ap (λ c. digits_before (suc (suc n)) c (suc n) []) (sym (ne_eqb (suc n) 0 (λ e. omega (arith, e)))) ∙ digits_are (suc n) (suc n) [] (omega arith) ∙ append-nil (glyphs (digits_of 10 (suc n)))

-- a numeral writes its number
pub numeral_number : (n : ℕ) → number_after 0 (numeral n) ≡ n
unfolding numeral
numeral_number zero = refl
numeral_number (suc n) = ap (number_after 0) (numeral_glyphs n) ∙ glyphs_number (digits_of 10 (suc n)) 0 ∙ number_digits_of 10 (suc n) (omega arith)

-- and is one of the lexicon's
pub numeral_is : (n : ℕ) → IsNumeral (numeral n)
unfolding numeral
numeral_is zero = only_zero
numeral_is (suc n) = subst IsNumeral (sym (numeral_glyphs n)) (go (digits_of 10 (suc n)) (all_below_base_digits_of 10 (suc n) (omega arith)) (first_digits_of 10 (suc n) (omega arith) (omega arith)))
  where
    go : (ds : List ℕ) → AllBelowBase 10 ds → 0 < get_or ds 0 0 → IsNumeral (glyphs ds)
    go [] a f = absurd (omega (arith, f))
    go (d ∷ ds) a f = digits (48 + d) (glyphs ds) (λ e. omega (arith, f, e)) (glyphs_are_digits (d ∷ ds) a)

pub numeral_digits : (n : ℕ) → Consists is_digit (numeral n)
unfolding numeral
numeral_digits zero = (refl, tt)
numeral_digits (suc n) = subst (Consists is_digit) (sym (numeral_glyphs n)) (glyphs_are_digits (digits_of 10 (suc n)) (all_below_base_digits_of 10 (suc n) (omega arith)))

-- digits are bytes of symbols
pub digits_in_symbols : (ds : List ℕ) → Consists is_digit ds → Consists is_symbol_byte ds
digits_in_symbols [] h = tt
digits_in_symbols (d ∷ ds) h = (rw h.0 refl, digits_in_symbols ds h.1)

-- what std writes of a number is the numeral, as far as std goes
pub numeral_decimal : (n : ℕ) → n < 10 ^ 64 → numeral n ≡ decimal n
unfolding numeral
numeral_decimal zero small = sym (decimal_digit 0 (omega arith))
numeral_decimal (suc n) small = numeral_glyphs n ∙ sym (steps (suc n) small (omega arith))
  where
    steps : (m : ℕ) → m < 10 ^ 64 → 0 < m → decimal m ≡ glyphs (digits_of 10 m)
    steps m = decimal_by_steps_wide (λ m ds. 0 < m → ds ≡ glyphs (digits_of 10 m))
        (λ m l a. let z : m / 10 ≡ 0 = omega arith in let e : m % 10 ≡ m = omega arith in sym (ap glyphs (digits_of_step 10 m (omega arith) a ∙ (λ i. digits_of 10 (z i) ++ (e i ∷ [])))))
        (λ m ds l h a. ap (λ x. x ++ ((48 + m % 10) ∷ [])) (h (omega arith)) ∙ sym (map-append (λ d. 48 + d) (digits_of 10 (m / 10)) (m % 10 ∷ [])) ∙ ap glyphs (sym (digits_of_step 10 m (omega arith) a)))
        m

-- digits are the prefix of themselves
pub front_all : (ds : List ℕ) → Consists is_digit ds → front is_digit ds ≡ ds
front_all [] h = refl
front_all (d ∷ ds) h = rw h.0 (ap (λ (xs : List ℕ). d ∷ xs) (front_all ds h.1))

-- a whole number is in lowest terms
pub whole_reduced : (n : ℕ) → IsReduced (whole (pos n))
unfolding gcd
whole_reduced n = record { positive = omega arith; coprime = refl }

-- the value of a numeral
pub literal_numeral : (n : ℕ) → literal_value (numeral n) ≡ whole (pos n)
unfolding literal_value
literal_numeral n =
    let front_is : whole_digits (numeral n) ≡ numeral n = front_all (numeral n) (numeral_digits n) in
    let no_point : point_digits (numeral n) ≡ [] = ap (λ (w : List ℕ). trimmed (drop (suc (length w)) (numeral n))) front_is ∙ ap trimmed (drop_all (suc (length (numeral n))) (numeral n) (omega arith)) in
    (λ i. lowest (pos (number_after 0 (front_is i ++ no_point i))) (10 ^ length (no_point i)))
    ∙ ap (λ (x : List ℕ). lowest (pos (number_after 0 x)) 1) (append-nil (numeral n))
    ∙ ap (λ k. lowest (pos k) 1) (numeral_number n)
    ∙ reduced-same (whole (pos n)) (whole_reduced n)

-- the number of an element is read back from its word
pub element_read : (k : ℕ) → element_number (element_word k) ≡ Some k
element_read k = ap (λ n. cond (bytes_eq (element_word k) (element_word n)) (Some n) None) (numeral_number k) ∙ ap (λ c. cond c (Some k) None) (bytes_itself (element_word k))
