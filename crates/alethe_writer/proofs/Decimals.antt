-- Numbers by their digits after the point.
use Rattle.std.proofs.Common.{◌≡◌, ◌≢◌, ℕ, zero, suc, ◌+◌, ◌-◌, ◌*◌, ◌/◌, ◌%◌, ◌^◌, ◌<◌, ◌≤◌, Bool, true, false, cond, not, nat_lt, ◌&&◌, ℤ, pos, negsuc, List, [], ◌∷◌, ◌++◌, length, take, append-nil, refl, sym, ap, ◌∙◌, arith}
use Rattle.std.specs.Prelude.{◌==◌, decimal, drop, if◌then◌else◌}
use Rattle.std.proofs.Math.Nat.{mod-lt, mul_comm, mul_assoc, pow-suc, one-le-pow, pow-le-pow_right, div-add-mod, mul-div_assoc}
use Rattle.std.proofs.lemmas.Nat.Gcd.{dvd_of_mod-eq-zero}
use Rattle.std.specs.Int.Signed.{lt_z}
use Rattle.std.proofs.Math.Seq.{take-length}
use Rattle.std.proofs.lemmas.Nat.{mod-mul-add}
use Rattle.std.proofs.lemmas.Fmt.{decimal_step_wide, decimal_digit}
use Rattle.std.proofs.lemmas.Bool.Decides.{nat_tests}
use Rattle.spec_numbers.specs.Fractions.{Fraction}
use Rattle.spec_text.specs.Trees.{atom}
use Rattle.spec_text.specs.Printed.{printed, printed_word}
use Rattle.spec_models.specs.Values.{numeral, fraction_tree}
use Rattle.spec_proof_texts.specs.Decimals.{last_digits, places_from, places, in_last_place, is_below_zero, has_decimal, behind_point, literal_kind, literal_text, literal_tree}
use Rattle.alethe_writer.specs.declared.numbers.Decimal.{Decimal}
use Rattle.alethe_writer.specs.Digits.{Writes}

-- no place more is needed
pub places_here : (k d : ℕ) → k < 38 → 10 ^ k % d ≡ 0 → places_from (38 - k) k d ≡ k
places_here k d lt e =
    let some : 38 - k ≡ suc (37 - k) = omega (arith, lt) in
    let test : (10 ^ k % d == 0) ≡ true = grind (arith, nat_tests, e) in
    ap (λ n. places_from n k d) some ∙ ap (λ b. cond b k (places_from (37 - k) (suc k) d)) test

-- a place more is
pub places_on : (k d : ℕ) → k < 38 → 10 ^ k % d ≢ 0 → places_from (38 - k) k d ≡ places_from (38 - (k + 1)) (k + 1) d
places_on k d lt e =
    let some : 38 - k ≡ suc (37 - k) = omega (arith, lt) in
    let rest : 37 - k ≡ 38 - (k + 1) = omega arith in
    let next : suc k ≡ k + 1 = omega arith in
    let test : (10 ^ k % d == 0) ≡ false = grind (arith, nat_tests, e) in
    ap (λ n. places_from n k d) some ∙ ap (λ b. cond b k (places_from (37 - k) (suc k) d)) test ∙ (λ i. places_from (rest i) (next i) d)

-- powers of ten up to the 38th are small
pub power_small : (k : ℕ) → k ≤ 38 → 10 ^ k ≤ 10 ^ 38
power_small k le = pow-le-pow_right (omega arith) le

pub power_more : (k : ℕ) → 10 ^ k * 10 ≡ 10 ^ (k + 1)
power_more k = sym (pow-suc 10 k) ∙ ap (λ n. 10 ^ n) (omega arith)

pub power_some : (k : ℕ) → 1 ≤ 10 ^ k
power_some k = one-le-pow k 10 (omega arith)

-- the digits of a number after a 1 are its last ones
pub padded : (k m : ℕ) → k ≤ 38 → decimal (10 ^ k + m % 10 ^ k) ≡ 49 ∷ last_digits k m
padded zero m le = let one : 10 ^ 0 + m % 10 ^ 0 ≡ 1 = omega (arith, mod-lt m {m = 1} (omega arith)) in ap decimal one ∙ decimal_digit 1 (omega arith)
padded (suc k) m le =
    let p : ℕ = 10 ^ k in
    let r : ℕ = m % 10 ^ suc k in
    let q : ℕ = m / 10 ^ suc k in
    let power : 10 ^ suc k ≡ p * 10 = pow-suc 10 k in
    let small : r < 10 ^ suc k = mod-lt m (omega (arith, power, power_some k)) in
    let pq : 10 ^ suc k * q ≡ 10 * (q * p) = ap (λ x. x * q) (power ∙ mul_comm p 10) ∙ mul_assoc 10 p q ∙ ap (λ x. 10 * x) (mul_comm p q) in
    let whole : 10 ^ suc k * q + r ≡ m = div-add-mod m (10 ^ suc k) in
    let tenth : m / 10 ≡ q * p + r / 10 = omega (arith, whole, pq) in
    let less : r / 10 < p = omega (arith, small, power) in
    let rest : (m / 10) % p ≡ r / 10 = ap (λ x. x % p) tenth ∙ mod-mul-add q p (r / 10) less in
    let front : (10 ^ suc k + r) / 10 ≡ p + (m / 10) % p = omega (arith, power, rest) in
    let last : (10 ^ suc k + r) % 10 ≡ m % 10 = omega (arith, power, whole, pq) in
    decimal_step_wide (10 ^ suc k + r) (omega (arith, power, power_some k)) (omega (arith, small, power_small (suc k) le))
    ∙ (λ i. decimal (front i) ++ ((48 + last i) ∷ []))
    ∙ ap (λ ds. ds ++ ((48 + m % 10) ∷ [])) (padded k (m / 10) (omega (arith, le)))

-- the digits of a number after a point, of those after a 1
pub behind : (k m : ℕ) (ds : List ℕ) → k ≢ 0 → ds ≡ 49 ∷ last_digits k m → 46 ∷ (take (length ds - 1) (drop 1 ds) ++ []) ≡ behind_point k m
behind zero m ds some e = absurd (some refl)
behind (suc k) m ds some e =
    let rest : drop 1 ds ≡ last_digits (suc k) m = ap (drop 1) e in
    let long : length ds - 1 ≡ length (last_digits (suc k) m) = omega (arith, ap length e) in
    ap (λ xs. 46 ∷ xs) (append-nil (take (length ds - 1) (drop 1 ds)) ∙ (λ i. take (long i) (rest i)) ∙ take-length (last_digits (suc k) m))

-- where a power leaves no remainder, a number by its parts is in units of its last place
pub units_are : (n p d : ℕ) → p % d ≡ 0 → n * (p / d) ≡ n * p / d
units_are n p d e = sym (mul-div_assoc d n (dvd_of_mod-eq-zero d e))

-- the sign of a number, as code reads it
pub below_zero : (z : ℤ) → lt_z z (pos 0) ≡ is_below_zero z
below_zero (pos n) = grind (arith, nat_tests)
below_zero (negsuc n) = refl

pub places_are : (q : Fraction) (k d : ℕ) → d ≡ q.den → k ≡ places_from 38 0 d → k ≡ places q
unfolding places
places_are q k d same e = e ∙ ap (places_from 38 0) same

and_false : (b : Bool) → (b && false) ≡ false
and_false true = refl
and_false false = refl

-- what has no decimal, and what has one
pub none_below : (q : Fraction) → is_below_zero q.num ≡ true → has_decimal q ≡ false
unfolding has_decimal
none_below q e = ap (λ b. not b && (10 ^ places q % q.den == 0 && nat_lt (in_last_place q) (2 ^ 127))) e

pub none_with_rest : (q : Fraction) → 10 ^ places q % q.den ≢ 0 → has_decimal q ≡ false
unfolding has_decimal
none_with_rest q e =
    let test : (10 ^ places q % q.den == 0) ≡ false = grind (arith, nat_tests, e) in
    ap (λ b. not (is_below_zero q.num) && (b && nat_lt (in_last_place q) (2 ^ 127))) test ∙ and_false (not (is_below_zero q.num))

pub none_so_large : (q : Fraction) → 2 ^ 127 ≤ in_last_place q → has_decimal q ≡ false
unfolding has_decimal
none_so_large q le =
    let test : nat_lt (in_last_place q) (2 ^ 127) ≡ false = grind (arith, nat_tests, le) in
    ap (λ b. not (is_below_zero q.num) && (10 ^ places q % q.den == 0 && b)) test
    ∙ ap (λ b. not (is_below_zero q.num) && b) (and_false (10 ^ places q % q.den == 0))
    ∙ and_false (not (is_below_zero q.num))

pub decimal_there : (q : Fraction) → is_below_zero q.num ≡ false → 10 ^ places q % q.den ≡ 0 → in_last_place q < 2 ^ 127 → has_decimal q ≡ true
unfolding has_decimal
decimal_there q sign rest lt =
    let one : (10 ^ places q % q.den == 0) ≡ true = grind (arith, nat_tests, rest) in
    let two : nat_lt (in_last_place q) (2 ^ 127) ≡ true = grind (arith, nat_tests, lt) in
    ap (λ b. not b && (10 ^ places q % q.den == 0 && nat_lt (in_last_place q) (2 ^ 127))) sign
    ∙ ap (λ b. b && nat_lt (in_last_place q) (2 ^ 127)) one
    ∙ two

plain : (k : ℕ) (ds : List ℕ) → printed_word (literal_kind k) ds ≡ ds
plain zero ds = refl
plain (suc k) ds = refl

-- and is printed with its digits
pub decimal_text : (q : Fraction) (d : Decimal) → Writes q d → numeral (d.units / 10 ^ d.places) ++ behind_point d.places d.units ≡ printed (literal_tree q)
unfolding literal_text
decimal_text q d w =
    let digits : numeral (d.units / 10 ^ d.places) ++ behind_point d.places d.units ≡ literal_text q = λ i. numeral (w.units i / 10 ^ w.places i) ++ behind_point (w.places i) (w.units i) in
    digits ∙ sym (plain (places q) (literal_text q)) ∙ ap (λ b. printed (if b then atom 0 (literal_kind (places q)) (literal_text q) else fraction_tree q)) (sym w.there)
