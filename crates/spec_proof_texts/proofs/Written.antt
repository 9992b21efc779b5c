-- Numbers that are read are the values of their decimals.
use Rattle.std.proofs.Common.{◌≡◌, ◌≢◌, ℕ, zero, suc, inl, inr, ◌+◌, ◌-◌, ◌*◌, ◌/◌, ◌%◌, ◌^◌, ◌<◌, ◌≤◌, Bool, true, false, cond, not, nat_lt, ◌&&◌, pos, List, [], ◌∷◌, ◌++◌, length, drop, append-nil, length-append, refl, sym, ap, ◌∙◌, subst, arith}
use Rattle.std.specs.Prelude.{◌==◌, ◌||◌, nat_le}
use Rattle.std.proofs.Math.Nat.{mod-lt, mul_comm, mul_assoc, pow-suc, one-le-pow, div-add-mod, mul-div_cancel, mul-div_cancel', mul-mod_left, eq_of_mul-eq-mul_right}
use Rattle.std.proofs.Math.Arith.{mod-mul}
use Rattle.std.proofs.lemmas.Bool.{cases_eq, false≢true, and_parts}
use Rattle.std.proofs.lemmas.Bool.Decides.{nat_tests}
use Rattle.std.proofs.lemmas.List.{drop_all}
use Rattle.std.proofs.lemmas.Nat.{pow-add}
use Rattle.std.proofs.lemmas.Nat.Gcd.{dvd_of_mod-eq-zero}
use Rattle.spec_text.specs.Bytes.{is_digit, front}
use Rattle.spec_text.specs.Lexicon.{Consists, IsNumeral, only_zero, digits}
use Rattle.spec_numbers.specs.Fractions.{Fraction, lowest, gcd}
use Rattle.spec_numbers.proofs.Gcd.{gcd-dvd_left, gcd-dvd_right}
use Rattle.spec_numbers.proofs.Lowest.{lowest-positive}
use Rattle.spec_text.proofs.Tests.{before_point, after_point}
use Rattle.spec_sorts.specs.Numerals.{number_after, trimmed, before_trimmed, whole_digits, point_digits, digits_number, literal_value, is_wide}
use Rattle.spec_sorts.specs.Terms.{same_fraction}
use Rattle.spec_sorts.proofs.General.{number_along, trimmed_other}
use Rattle.spec_sorts.proofs.SameTerms.{fraction_itself}
use Rattle.spec_models.specs.Values.{numeral}
use Rattle.spec_models.proofs.Numerals.{numeral_number, numeral_digits, front_all}
use Rattle.spec_proof_texts.specs.Decimals.{last_digits, places_from, places, in_last_place, behind_point, literal_text, has_decimal, is_decimal}

-- the parts of a number without a common divisor, where the number is over a power
units_back : (m n d g p : ℕ) → g * n ≡ m → g * d ≡ p → 0 < d → n * p / d ≡ m
units_back m n d g p e f some =
    let whole : n * p ≡ m * d = ap (λ x. n * x) (sym f) ∙ sym (mul_assoc n g d) ∙ ap (λ x. x * d) (mul_comm n g ∙ e) in
    ap (λ x. x / d) whole ∙ mul-div_cancel m some

no_rest : (d g p : ℕ) → g * d ≡ p → p % d ≡ 0
no_rest d g p f = ap (λ x. x % d) (sym f) ∙ mul-mod_left g d

-- where a lower power leaves no remainder, the number ends with 0
too_early : (m n d g k j : ℕ) → g * n ≡ m → g * d ≡ 10 ^ k → 0 < d → j < k → 10 ^ j % d ≡ 0 → m % 10 ≡ 0
too_early m n d g k j e f some lt rest =
    let c : ℕ = 10 ^ j / d in
    let r : ℕ = k - j - 1 in
    let p : ℕ = 10 ^ r in
    let back : d * c ≡ 10 ^ j = mul-div_cancel' d (dvd_of_mod-eq-zero d rest) in
    let sum : k ≡ j + suc r = omega (arith, lt) in
    let power : 10 ^ k ≡ 10 ^ j * (p * 10) = ap (λ x. 10 ^ x) sum ∙ pow-add 10 j (suc r) ∙ ap (λ x. 10 ^ j * x) (pow-suc 10 r) in
    let parts : g * d ≡ c * (p * 10) * d =
    f ∙ power ∙ ap (λ x. x * (p * 10)) (sym back ∙ mul_comm d c) ∙ mul_assoc c d (p * 10) ∙ ap (λ x. c * x) (mul_comm d (p * 10)) ∙ sym (mul_assoc c (p * 10) d) in
    let divisor : g ≡ c * (p * 10) = eq_of_mul-eq-mul_right d some g (c * (p * 10)) parts in
    let whole : m ≡ n * (c * p) * 10 =
    sym e ∙ ap (λ x. x * n) divisor ∙ mul_comm (c * (p * 10)) n ∙ ap (λ x. n * x) (sym (mul_assoc c p 10)) ∙ sym (mul_assoc n (c * p) 10) in
    ap (λ x. x % 10) whole ∙ mul-mod_left (n * (c * p)) 10

-- the least number of places is found
least : (n i d k : ℕ) → i ≤ k → k ≤ i + n → ((j : ℕ) → j < k → 10 ^ j % d ≢ 0) → 10 ^ k % d ≡ 0 → places_from n i d ≡ k
least zero i d k low high early here = omega (arith, low, high)
least (suc n) i d k low high early here = go (10 ^ i % d == 0) refl (λ lt. least n (suc i) d k lt (omega (arith, high)) early here)
  where
    go : (b : Bool) → (10 ^ i % d == 0) ≡ b → (suc i ≤ k → places_from n (suc i) d ≡ k) → cond b i (places_from n (suc i) d) ≡ k
    go true e on = elim (cases_eq i k) [
      | inl same ↦ same
      | inr differ ↦ let zeroth : 10 ^ i % d ≡ 0 = grind (arith, nat_tests, e) in absurd (early i (grind (arith, low, differ)) zeroth)
    ]
    go false e on = elim (cases_eq i k) [
      | inl same ↦ let zeroth : 10 ^ i % d ≡ 0 = ap (λ j. 10 ^ j % d) same ∙ here in absurd (grind (arith, nat_tests, e, zeroth))
      | inr differ ↦ on (grind (arith, low, differ))
    ]

-- the last digits of a number write its remainder
number_last : (k a m : ℕ) → number_after a (last_digits k m) ≡ a * 10 ^ k + m % 10 ^ k
number_last zero a m = omega (arith, mod-lt m {m = 1} (omega arith))
number_last (suc k) a m =
    let p : ℕ = 10 ^ k in
    let some : 1 ≤ p = one-le-pow k 10 (omega arith) in
    let front : number_after a (last_digits k (m / 10)) ≡ a * p + (m / 10) % p = number_last k a (m / 10) in
    let power : 10 ^ suc k ≡ p * 10 = pow-suc 10 k in
    let rest : m % (p * 10) ≡ (m / 10 % p) * 10 + m % 10 = mod-mul m some (omega arith) in
    let more : a * (p * 10) ≡ a * p * 10 = sym (mul_assoc a p 10) in
    let goal : a * 10 ^ suc k + m % 10 ^ suc k ≡ a * (p * 10) + m % (p * 10) = ap (λ x. a * x + m % x) power in
    let last : 48 + m % 10 - 48 ≡ m % 10 = omega arith in
    number_along a (last_digits k (m / 10)) ((48 + m % 10) ∷ [])
    ∙ (λ i. front i * 10 + last i)
    ∙ omega (arith, goal, rest, more)

pub length_last : (k m : ℕ) → length (last_digits k m) ≡ k
length_last zero m = refl
length_last (suc k) m = length-append (last_digits k (m / 10)) ((48 + m % 10) ∷ []) ∙ omega (arith, length_last k (m / 10))

trimmed_last : (k m : ℕ) → (0 < k → m % 10 ≢ 0) → trimmed (last_digits k m) ≡ last_digits k m
trimmed_last zero m ends = refl
trimmed_last (suc k) m ends =
    let other : m % 10 ≢ 0 = ends (omega arith) in
    let test : (48 + m % 10 == 48) ≡ false = grind (arith, nat_tests, other) in
    trimmed_other (last_digits k (m / 10)) (48 + m % 10) test

whole_of : (k m : ℕ) (ds : List ℕ) → Consists is_digit ds → whole_digits (ds ++ behind_point k m) ≡ ds
whole_of zero m ds h = ap (front is_digit) (append-nil ds) ∙ front_all ds h
whole_of (suc k) m ds h = before_point ds (last_digits (suc k) m) h

points_of : (k m : ℕ) (ds : List ℕ) → Consists is_digit ds → (0 < k → m % 10 ≢ 0) → point_digits (ds ++ behind_point k m) ≡ last_digits k m
points_of zero m ds h ends =
    ap (λ w. point_digits w) (append-nil ds) ∙ ap (λ (w : List ℕ). trimmed (drop (suc (length w)) ds)) (front_all ds h) ∙ ap trimmed (drop_all (suc (length ds)) ds (omega arith))
points_of (suc k) m ds h ends =
    ap (λ (w : List ℕ). trimmed (drop (suc (length w)) (ds ++ behind_point (suc k) m))) (whole_of (suc k) m ds h)
    ∙ ap trimmed (after_point ds (last_digits (suc k) m))
    ∙ trimmed_last (suc k) m ends

-- a number over a power of ten, which does not end with 0 but where that power is 1, is its decimal
module _ (m k : ℕ) (small : m < 2 ^ 127) (short : k ≤ 38) (ends : 0 < k → m % 10 ≢ 0) where
  abbrev q : Fraction
  q = lowest (pos m) (10 ^ k)

  abbrev g : ℕ
  g = gcd m (10 ^ k)

  some_den : 0 < q.den
  some_den = lowest-positive (pos m) (10 ^ k) (one-le-pow k 10 (omega arith))

  above : g * (m / g) ≡ m
  above = mul-div_cancel' g (gcd-dvd_left m (10 ^ k))

  below : g * q.den ≡ 10 ^ k
  below = mul-div_cancel' g (gcd-dvd_right m (10 ^ k))

  places_are : places q ≡ k
  unfolding places
  places_are = least 38 0 q.den k (omega arith) short (λ j lt rest. ends (omega (arith, lt)) (too_early m (m / g) q.den g k j above below some_den lt rest)) (no_rest q.den g (10 ^ k) below)

  last_place : in_last_place q ≡ m
  last_place = ap (λ n. m / g * 10 ^ n / q.den) places_are ∙ units_back m (m / g) q.den g (10 ^ k) above below some_den

  text : literal_text q ≡ numeral (m / 10 ^ k) ++ behind_point k m
  unfolding literal_text
  text = λ i. numeral (last_place i / 10 ^ places_are i) ++ behind_point (places_are i) (last_place i)

  points : point_digits (literal_text q) ≡ last_digits k m
  points = ap (λ w. point_digits w) text ∙ points_of k m (numeral (m / 10 ^ k)) (numeral_digits (m / 10 ^ k)) ends

  number : digits_number (literal_text q) ≡ m
  number =
      let a : ℕ = m / 10 ^ k in
      let front_is : whole_digits (literal_text q) ≡ numeral a = ap (λ w. whole_digits w) text ∙ whole_of k m (numeral a) (numeral_digits a) in
      let parts : 10 ^ k * a + m % 10 ^ k ≡ m = div-add-mod m (10 ^ k) in
      (λ i. number_after 0 (front_is i ++ points i))
      ∙ number_along 0 (numeral a) (last_digits k m)
      ∙ ap (λ n. number_after n (last_digits k m)) (numeral_number a)
      ∙ number_last k a m
      ∙ ap (λ x. x + m % 10 ^ k) (mul_comm a (10 ^ k))
      ∙ parts

  long : length (point_digits (literal_text q)) ≡ k
  long = ap length points ∙ length_last k m

  value : literal_value (literal_text q) ≡ q
  unfolding literal_value
  value = λ i. lowest (pos (number i)) (10 ^ long i)

  narrow : is_wide (literal_text q) ≡ false
  narrow =
      let one : nat_le (2 ^ 127) m ≡ false = grind (arith, nat_tests, small) in
      let two : nat_le 39 k ≡ false = grind (arith, nat_tests, short) in
      (λ i. nat_le (2 ^ 127) (number i) || nat_le 39 (long i)) ∙ (λ i. one i || two i)

  itself : same_fraction q q ≡ true
  itself = fraction_itself q

  there : has_decimal q ≡ true
  unfolding has_decimal
  there =
      let rest : 10 ^ places q % q.den ≡ 0 = ap (λ n. 10 ^ n % q.den) places_are ∙ no_rest q.den g (10 ^ k) below in
      let one : (10 ^ places q % q.den == 0) ≡ true = grind (arith, nat_tests, rest) in
      let two : nat_lt m (2 ^ 127) ≡ true = grind (arith, nat_tests, small) in
      (λ i. one i && nat_lt (last_place i) (2 ^ 127)) ∙ two

  pub written : is_decimal q ≡ true
  unfolding is_decimal
  written =
      let same : same_fraction (literal_value (literal_text q)) q ≡ true = ap (λ x. same_fraction x q) value ∙ itself in
      λ i. there i && (same i && not (narrow i))

-- digits that have lost the zeros at their end do not end with 0
trimmed_ends : (a : ℕ) (ds : List ℕ) → Consists is_digit ds → 0 < length (trimmed ds) → number_after a (trimmed ds) % 10 ≢ 0
trimmed_ends a [] h some = absurd (omega (arith, some))
trimmed_ends a (d ∷ ds) h some = go (trimmed ds) some (trimmed_ends (a * 10 + (d - 48)) ds h.1)
  where
    low : 48 ≤ d
    low = let x = (and_parts (nat_le 48 d) (nat_le d 57) h.0).0 in grind (arith, nat_tests, x)

    high : d ≤ 57
    high = let x = (and_parts (nat_le 48 d) (nat_le d 57) h.0).1 in grind (arith, nat_tests, x)

    alone : (b : Bool) → (d == 48) ≡ b → 0 < length (cond b [] (d ∷ [])) → number_after a (cond b [] (d ∷ [])) % 10 ≢ 0
    alone true e some = absurd (omega (arith, some))
    alone false e some = λ rest. let same : d ≡ 48 = omega (arith, rest, low, high) in absurd (grind (arith, nat_tests, e, same))

    go : (es : List ℕ) → 0 < length (before_trimmed d es) → (0 < length es → number_after (a * 10 + (d - 48)) es % 10 ≢ 0) → number_after a (before_trimmed d es) % 10 ≢ 0
    go [] some on = alone (d == 48) refl some
    go (e ∷ es) some on = on (omega arith)

-- what is not wide is small and short
not_wide : (w : List ℕ) → is_wide w ≡ false → (digits_number w < 2 ^ 127) × (length (point_digits w) ≤ 38)
not_wide w e = go (nat_le (2 ^ 127) (digits_number w)) (nat_le 39 (length (point_digits w))) refl refl e
  where
    go : (a b : Bool) → nat_le (2 ^ 127) (digits_number w) ≡ a → nat_le 39 (length (point_digits w)) ≡ b → a || b ≡ false → (digits_number w < 2 ^ 127) × (length (point_digits w) ≤ 38)
    go false false x y f = (grind (arith, nat_tests, x), grind (arith, nat_tests, y))
    go true b x y f = absurd (false≢true (sym f))
    go false true x y f = absurd (false≢true (sym f))

-- the digits of a numeral
numeral_consists : (ds : List ℕ) → IsNumeral ds → Consists is_digit ds
numeral_consists _ only_zero = (refl, tt)
numeral_consists _ (digits d ds some h) = h

-- a literal that is not wide is the decimal of its value
literal_written : (w : List ℕ) → is_wide w ≡ false → (0 < length (point_digits w) → digits_number w % 10 ≢ 0) → is_decimal (literal_value w) ≡ true
unfolding literal_value
literal_written w e ends = let n = not_wide w e in written (digits_number w) (length (point_digits w)) n.0 n.1 ends

pub numeral_written : (ds : List ℕ) → IsNumeral ds → is_wide ds ≡ false → is_decimal (literal_value ds) ≡ true
numeral_written ds h e =
    let all = numeral_consists ds h in
    let no_point : point_digits ds ≡ [] = ap (λ (w : List ℕ). trimmed (drop (suc (length w)) ds)) (front_all ds all) ∙ ap trimmed (drop_all (suc (length ds)) ds (omega arith)) in
    literal_written ds e (λ some. absurd (omega (arith, some, ap length no_point)))

pub decimal_written : (ds : List ℕ) (f : ℕ) (fs : List ℕ) → IsNumeral ds → Consists is_digit (f ∷ fs) → is_wide (ds ++ 46 ∷ f ∷ fs) ≡ false → is_decimal (literal_value (ds ++ 46 ∷ f ∷ fs)) ≡ true
decimal_written ds f fs h rest e =
    let w : List ℕ = ds ++ 46 ∷ f ∷ fs in
    let all = numeral_consists ds h in
    let front_is : whole_digits w ≡ ds = before_point ds (f ∷ fs) all in
    let points_are : point_digits w ≡ trimmed (f ∷ fs) = ap (λ (x : List ℕ). trimmed (drop (suc (length x)) w)) front_is ∙ ap trimmed (after_point ds (f ∷ fs)) in
    let number_is : digits_number w ≡ number_after (number_after 0 ds) (trimmed (f ∷ fs)) = (λ i. number_after 0 (front_is i ++ points_are i)) ∙ number_along 0 ds (trimmed (f ∷ fs)) in
    literal_written w e (λ some ends. trimmed_ends (number_after 0 ds) (f ∷ fs) rest (subst (λ (x : List ℕ). 0 < length x) points_are some) (ap (λ n. n % 10) (sym number_is) ∙ ends))
