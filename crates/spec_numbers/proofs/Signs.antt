-- Integers by sign and size.
use Rattle.std.proofs.Common.{rules, ◌≡◌, ℕ, zero, suc, ◌*◌, ◌/◌, Bool, true, false, not, ℤ, pos, negsuc, ◌*ℤ◌, neg_ℤ, unsigned_abs, refl, ◌∙◌, ap, arith, true≢false}
use Rattle.std.specs.Bool.{beq}
use Rattle.std.proofs.lemmas.Bool.Decides.{nat_tests}
use Rattle.std.specs.Int.RustNames.{int_lt}
use Rattle.std.proofs.Math.Nat.{zero-div}
use Rattle.std.proofs.lemmas.Int.{ints}
use Rattle.spec_numbers.specs.Fractions.{over, signed_integer}

pub signed-self : (z : ℤ) → z ≡ signed_integer (int_lt z (pos 0)) (unsigned_abs z)
signed-self (pos zero) = refl
signed-self (pos (suc n)) = grind (arith, nat_tests)
signed-self (negsuc n) = refl

-- a size is the integer itself, where that is not negative
pub size_same : (z : ℤ) → int_lt z (pos 0) ≡ false → pos (unsigned_abs z) ≡ z
size_same (pos n) e = refl
size_same (negsuc n) e = absurd (true≢false e)

pub signed-mul : (b c : Bool) (m n : ℕ) → signed_integer b m *ℤ signed_integer c n ≡ signed_integer (not (beq b c)) (m * n)
signed-mul true true zero zero = first_of (omega (arith, ints), search rules)
signed-mul true true zero (suc n) = first_of (omega (arith, ints), search rules)
signed-mul true true (suc m) zero = first_of (omega (arith, ints), search rules)
signed-mul true true (suc m) (suc n) = first_of (omega (arith, ints), search rules)
signed-mul true false zero zero = first_of (omega (arith, ints), search rules)
signed-mul true false zero (suc n) = first_of (omega (arith, ints), search rules)
signed-mul true false (suc m) zero = first_of (omega (arith, ints), search rules)
signed-mul true false (suc m) (suc n) = first_of (omega (arith, ints), search rules)
signed-mul false true zero zero = first_of (omega (arith, ints), search rules)
signed-mul false true zero (suc n) = first_of (omega (arith, ints), search rules)
signed-mul false true (suc m) zero = first_of (omega (arith, ints), search rules)
signed-mul false true (suc m) (suc n) = first_of (omega (arith, ints), search rules)
signed-mul false false zero zero = first_of (omega (arith, ints), search rules)
signed-mul false false zero (suc n) = first_of (omega (arith, ints), search rules)
signed-mul false false (suc m) zero = first_of (omega (arith, ints), search rules)
signed-mul false false (suc m) (suc n) = first_of (omega (arith, ints), search rules)

pub over-signed : (b : Bool) (n g : ℕ) → over (signed_integer b n) g ≡ signed_integer b (n / g)
over-signed false n g = refl
over-signed true zero g = rw zero-div refl
over-signed true (suc n) g = refl

pub abs-signed : (b : Bool) (n : ℕ) → unsigned_abs (signed_integer b n) ≡ n
abs-signed false n = refl
abs-signed true zero = refl
abs-signed true (suc n) = refl

-- the size of an integer over a divisor
pub abs-over : (z : ℤ) (g : ℕ) → unsigned_abs (over z g) ≡ unsigned_abs z / g
abs-over z g =
    let b = int_lt z (pos 0) in
    ap (λ z. unsigned_abs (over z g)) (signed-self z) ∙ ap unsigned_abs (over-signed b (unsigned_abs z) g) ∙ abs-signed b (unsigned_abs z / g)

pub over-neg : (z : ℤ) (g : ℕ) → over (neg_ℤ z) g ≡ neg_ℤ (over z g)
over-neg (pos zero) g = rw zero-div refl
over-neg (pos (suc n)) g = refl
over-neg (negsuc n) g = omega (arith, ints)

pub abs-neg : (z : ℤ) → unsigned_abs (neg_ℤ z) ≡ unsigned_abs z
abs-neg (pos zero) = refl
abs-neg (pos (suc n)) = refl
abs-neg (negsuc n) = refl

-- products with whole numbers that are not negative
pub signed-scale : (x : ℤ) (k : ℕ) → x *ℤ pos k ≡ signed_integer (int_lt x (pos 0)) (unsigned_abs x * k)
signed-scale x k = ap (λ z. z *ℤ pos k) (signed-self x) ∙ signed-mul (int_lt x (pos 0)) false (unsigned_abs x) k ∙ ap (λ b. signed_integer b (unsigned_abs x * k)) (flat (int_lt x (pos 0)))
  where
    flat : (b : Bool) → not (beq b false) ≡ b
    flat true = refl
    flat false = refl

pub pos-signed : (b : Bool) (g n : ℕ) → pos g *ℤ signed_integer b n ≡ signed_integer b (g * n)
pos-signed b g n = signed-mul false b g n ∙ ap (λ c. signed_integer c (g * n)) (flat b)
  where
    flat : (b : Bool) → not (beq false b) ≡ b
    flat true = refl
    flat false = refl

pub zero-times : (y : ℤ) → pos 0 *ℤ y ≡ pos 0
zero-times (pos n) = first_of (omega (arith, ints), search rules)
zero-times (negsuc n) = first_of (omega (arith, ints), search rules)
