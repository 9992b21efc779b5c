-- Signed numbers of 128 bits.
use Rattle.std.proofs.Common.{rules, ◌≡◌, zero, suc, ◌<◌, ◌^◌, nat_eq, IsTrue, ℤ, pos, negsuc, ◌-ℤ◌, neg_ℤ, unsigned_abs, refl, sym, subst, arith}
use Rattle.std.proofs.lemmas.Int.{ints}
use Rattle.std.proofs.lemmas.Bool.Decides.{nat_tests}
use mir.Syntax.{w128}
use mir.Val.{SFits, to_z, of_z}

-- a number is 0 where its bits are
pub zero_bits : (z : ℤ) → SFits w128 z → IsTrue (nat_eq (of_z w128 z) 0) → z ≡ pos 0
zero_bits (pos zero) f h = refl
zero_bits (pos (suc n)) f h = absurd (grind (arith, nat_tests))
zero_bits (negsuc n) f h = absurd (grind (arith, ints, nat_tests, f.sfits))

pub bits_zero : (z : ℤ) → z ≡ pos 0 → IsTrue (nat_eq (of_z w128 z) 0)
bits_zero z e = subst (λ z. IsTrue (nat_eq (of_z w128 z) 0)) (sym e) (search rules)

pub negated : (z : ℤ) → SFits w128 z → unsigned_abs z < 2 ^ 127 → to_z w128 (of_z w128 (pos 0 -ℤ to_z w128 (of_z w128 z))) ≡ neg_ℤ z
negated (pos n) f h = omega (arith, ints)
negated (negsuc n) f h = omega (arith, ints)
