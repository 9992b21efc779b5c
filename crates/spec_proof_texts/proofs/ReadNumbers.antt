-- The value of a literal that is not too wide is a decimal, whatever its bytes are: digits write it too.
use Rattle.std.proofs.Common.{◌≡◌, ◌≢◌, ℕ, zero, suc, ◌+◌, ◌-◌, ◌*◌, ◌/◌, ◌%◌, ◌^◌, ◌<◌, ◌≤◌, Bool, true, false, pos, List, [], ◌∷◌, ◌++◌, length, drop, refl, sym, ap, ◌∙◌, subst, arith}
use Rattle.std.specs.Prelude.{◌==◌, ◌||◌, nat_le}
use Rattle.std.proofs.Math.Nat.{pow-suc, mul_comm}
use Rattle.std.proofs.lemmas.Bool.{or_parts}
use Rattle.std.proofs.lemmas.Bool.Decides.{nat_tests}
use Rattle.spec_text.specs.Bytes.{is_digit}
use Rattle.spec_text.specs.Lexicon.{Consists, IsNumeral}
use Rattle.spec_numbers.specs.Fractions.{lowest}
use Rattle.spec_numbers.proofs.Lowest.{lowest-scale}
use Rattle.spec_text.proofs.Tests.{before_point, after_point}
use Rattle.spec_sorts.specs.Numerals.{number_after, trimmed, whole_digits, point_digits, digits_number, literal_value, is_wide}
use Rattle.spec_sorts.proofs.General.{number_along, trimmed_other}
use Rattle.spec_models.specs.Values.{numeral}
use Rattle.spec_models.proofs.Numerals.{numeral_number, numeral_is, numeral_digits}
use Rattle.spec_proof_texts.specs.Decimals.{last_digits, is_decimal}
use Rattle.spec_proof_texts.proofs.Names.{last_digits_are}
use Rattle.spec_proof_texts.proofs.Written.{length_last}

-- what a number has before its last digits
abbrev leading : ℕ → ℕ → ℕ
leading zero m = m
leading (suc k) m = leading k (m / 10)

-- with these it is the number
leading_last : (k m : ℕ) → number_after (leading k m) (last_digits k m) ≡ m
leading_last zero m = refl
leading_last (suc k) m =
    let before = leading_last k (m / 10) in
    let last : 48 + m % 10 - 48 ≡ m % 10 = omega arith in
    number_along (leading k (m / 10)) (last_digits k (m / 10)) ((48 + m % 10) ∷ []) ∙ (λ i. before i * 10 + last i) ∙ omega arith

-- a number that ends with 0, in units of a place, is a tenth of it in units of the place before
place_before : (m k : ℕ) → m % 10 ≡ 0 → lowest (pos m) (10 ^ suc k) ≡ lowest (pos (m / 10)) (10 ^ k)
place_before m k e =
    let whole : m ≡ 10 * (m / 10) = omega (arith, e) in
    let power : 10 ^ suc k ≡ 10 * 10 ^ k = pow-suc 10 k ∙ mul_comm (10 ^ k) 10 in
    (λ i. lowest (pos (whole i)) (power i)) ∙ lowest-scale (pos (m / 10)) (10 ^ k) 10 (omega arith)

-- the decimals of the lexicon that are not too wide
abbrev pub WriteDecimals : Type 0
WriteDecimals = (ds : List ℕ) (f : ℕ) (fs : List ℕ) → IsNumeral ds → Consists is_digit (f ∷ fs) → is_wide (ds ++ 46 ∷ f ∷ fs) ≡ false → is_decimal (literal_value (ds ++ 46 ∷ f ∷ fs)) ≡ true

module _ (decimal : WriteDecimals) where
  -- a number by its digits before a point and after it, without the zeros at the end
  at_point : (a f : ℕ) (fs qs : List ℕ) → Consists is_digit (f ∷ fs) → trimmed (f ∷ fs) ≡ qs → number_after a qs < 2 ^ 127 → length qs ≤ 38 → is_decimal (lowest (pos (number_after a qs)) (10 ^ length qs)) ≡ true
  unfolding literal_value
  at_point a f fs qs h e small short =
      let w : List ℕ = numeral a ++ 46 ∷ f ∷ fs in
      let whole : whole_digits w ≡ numeral a = before_point (numeral a) (f ∷ fs) (numeral_digits a) in
      let points : point_digits w ≡ qs = ap (λ (x : List ℕ). trimmed (drop (suc (length x)) w)) whole ∙ ap trimmed (after_point (numeral a) (f ∷ fs)) ∙ e in
      let number : digits_number w ≡ number_after a qs = (λ i. number_after 0 (whole i ++ points i)) ∙ number_along 0 (numeral a) qs ∙ ap (λ n. number_after n qs) (numeral_number a) in
      let one : nat_le (2 ^ 127) (number_after a qs) ≡ false = grind (arith, nat_tests, small) in
      let two : nat_le 39 (length qs) ≡ false = grind (arith, nat_tests, short) in
      let narrow : is_wide w ≡ false = (λ i. nat_le (2 ^ 127) (number i) || nat_le 39 (length (points i))) ∙ (λ i. one i || two i) in
      sym (λ i. is_decimal (lowest (pos (number i)) (10 ^ length (points i)))) ∙ decimal (numeral a) f fs (numeral_is a) h narrow

  -- a number that does not end with 0, in units of a place after the point
  at_place : (k m : ℕ) → m < 2 ^ 127 → suc k ≤ 38 → m % 10 ≢ 0 → is_decimal (lowest (pos m) (10 ^ suc k)) ≡ true
  at_place k m small short ends = go (last_digits (suc k) m) refl
    where
      number : number_after (leading (suc k) m) (last_digits (suc k) m) ≡ m
      number = leading_last (suc k) m

      long : length (last_digits (suc k) m) ≡ suc k
      long = length_last (suc k) m

      whole : trimmed (last_digits (suc k) m) ≡ last_digits (suc k) m
      whole = let test : (48 + m % 10 == 48) ≡ false = grind (arith, nat_tests, ends) in trimmed_other (last_digits k (m / 10)) (48 + m % 10) test

      go : (ds : List ℕ) → last_digits (suc k) m ≡ ds → is_decimal (lowest (pos m) (10 ^ suc k)) ≡ true
      go [] e = absurd (omega (arith, long, ap length e))
      go (f ∷ fs) e =
          let is : number_after (leading (suc k) m) (f ∷ fs) ≡ m = ap (number_after (leading (suc k) m)) (sym e) ∙ number in
          let has : length (f ∷ fs) ≡ suc k = ap length (sym e) ∙ long in
          sym (λ i. is_decimal (lowest (pos (is i)) (10 ^ has i)))
          ∙ at_point (leading (suc k) m) f fs (f ∷ fs) (subst (Consists is_digit) e (last_digits_are (suc k) m)) (subst (λ (ds : List ℕ). trimmed ds ≡ ds) e whole) (omega (arith, is, small)) (omega (arith, has, short))

  -- a number in units of one of the first 38 places
  narrow_decimal : (k m : ℕ) → m < 2 ^ 127 → k ≤ 38 → is_decimal (lowest (pos m) (10 ^ k)) ≡ true
  narrow_decimal zero m small short = at_point m 48 [] [] (refl, tt) refl small (omega arith)
  narrow_decimal (suc k) m small short = go (m % 10 == 0) refl (narrow_decimal k (m / 10) (omega (arith, small)) (omega (arith, short)))
    where
      go : (b : Bool) → (m % 10 == 0) ≡ b → is_decimal (lowest (pos (m / 10)) (10 ^ k)) ≡ true → is_decimal (lowest (pos m) (10 ^ suc k)) ≡ true
      go true e before = let ends : m % 10 ≡ 0 = grind (arith, nat_tests, e) in ap (λ q. is_decimal q) (place_before m k ends) ∙ before
      go false e before = at_place k m small short (λ ends. absurd (grind (arith, nat_tests, e, ends)))

  -- each number that is read is such a number
  pub read_decimal : (w : List ℕ) → is_wide w ≡ false → is_decimal (literal_value w) ≡ true
  unfolding literal_value
  read_decimal w e =
      let parts = or_parts (nat_le (2 ^ 127) (digits_number w)) (nat_le 39 (length (point_digits w))) e in
      narrow_decimal (length (point_digits w)) (digits_number w) (grind (arith, nat_tests, parts.0)) (grind (arith, nat_tests, parts.1))
